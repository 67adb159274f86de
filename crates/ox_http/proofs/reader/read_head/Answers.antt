-- The end of the head is searched for, and the head read.
use Rattle.std.proofs.Common.{ℕ, ◌≤◌, List, length, take, arith, ap, sym, ◌∙◌}
use Rattle.std.proofs.lemmas.List.{length-take}
use Rattle.ox_http.specs.First.{at_head, head_length}
use Rattle.ox_http.specs.Head.{head_of}
use Rattle.ox_http.proofs.Fronts.{bounded, front_few, front_found, front_many, looked_fewer}
use Rattle.ox_http.proofs.Stays.{limit_within}
use Rattle.ox_http.proofs.reader.read_head.Goals as goal

pub head_end-requires-clause-none : goal.head_end-requires-clause-none
head_end-requires-clause-none c =
    ap (λ (z : List ℕ). head_length (take c.min.result z)) c.front-front.ensures
    ∙ looked_fewer c.args.bytes.now c.args.looked c.min.result
    (let few : c.min.result ≤ c.args.looked = omega arith in few)
    (let most : c.min.result ≤ 8192 = omega (
      arith,
      ap length c.front-front.ensures,
      length-take 8192 c.args.bytes.now,
    ) in most)
    c.requires.within c.requires.none

pub split_at-requires : goal.split_at-requires
split_at-requires c =
    (limit_within c.args.bytes.now c.in-Some.n
    (ap head_length (sym c.front-front.ensures) ∙ sym c.head_end.ensures ∙ c.in-Some.is)).0

pub returns-in-Some-clause-front : goal.returns-in-Some-clause-front
returns-in-Some-clause-front c =
    c.read_whole.ensures
    ∙ ap (λ (z : List ℕ). at_head (length z) (head_of z)) c.split_at.ensures.front
    ∙ sym (front_found c.args.bytes.now c.in-Some.n
    (ap head_length (sym c.front-front.ensures) ∙ sym c.head_end.ensures ∙ c.in-Some.is))

pub returns-in-Some-clause-bounds : goal.returns-in-Some-clause-bounds
returns-in-Some-clause-bounds c =
    bounded c.read_whole.result c.args.bytes.now
    (c.read_whole.ensures
    ∙ ap (λ (z : List ℕ). at_head (length z) (head_of z)) c.split_at.ensures.front
    ∙ sym (front_found c.args.bytes.now c.in-Some.n
    (ap head_length (sym c.front-front.ensures) ∙ sym c.head_end.ensures ∙ c.in-Some.is)))

pub returns-in-None-clause-front : goal.returns-in-None-clause-front
returns-in-None-clause-front c =
    sym (front_few c.args.bytes.now
    (ap head_length (sym c.front-front.ensures) ∙ sym c.head_end.ensures ∙ c.in-None.is)
    c.if-bytes-lt-HEAD_LIMIT.true)

pub returns-in-None-2-clause-front : goal.returns-in-None-2-clause-front
returns-in-None-2-clause-front c =
    sym (front_many c.args.bytes.now
    (ap head_length (sym c.front-front.ensures) ∙ sym c.head_end.ensures ∙ c.in-None-2.is)
    c.if-bytes-lt-HEAD_LIMIT.false)
