use Rattle.std.proofs.Common.{◌≡◌, ◌∙◌, ◌-◌, ◌++◌, ℕ, List, length, take, drop, ap, codes, sym, arith}
use Rattle.std.proofs.lemmas.Grind.{common_steps}
use Rattle.ox_rules.specs.Text.{refusal_line}
use Rattle.ox_desk.specs.Replies.{refusal_text}
use Rattle.ox_desk.proofs.Bodies.{refused_is}
use Rattle.ox_desk.proofs.Refusals.{long_enough, told_in}
use Rattle.ox_desk.proofs.refused.refused_body.Goals as goal

pub split_at-requires : goal.split_at-requires
split_at-requires c = let long = long_enough c.args.refusal c.as_slice.result.now (c.as_slice.ensures ∙ c.in_ok-line.ensures) in omega (arith, long)

pub overflow_sub-len : goal.overflow_sub-len
overflow_sub-len c = let long = long_enough c.args.refusal c.as_slice.result.now (c.as_slice.ensures ∙ c.in_ok-line.ensures) in omega (arith, long, c.len.ensures, ap length c.as_slice.ensures)

pub returns : goal.returns
returns c =
    let line = c.as_slice.result.now in
    let is_line : line ≡ refusal_line c.args.refusal = c.as_slice.ensures ∙ c.in_ok-line.ensures in
    let size : c.len.result ≡ length line = c.len.ensures ∙ ap length (sym c.as_slice.ensures) in
    let text : c.split_at-2.result.0.now ≡ refusal_text c.args.refusal =
    c.split_at-2.ensures.front
    ∙ ap (λ (l : List ℕ). take (c.len.result - 9) l) c.split_at.ensures.back
    ∙ ap (λ (n : ℕ). take (n - 9) (drop 8 line)) size
    ∙ told_in c.args.refusal line is_line in
    let body : c.append-2.new.self ≡ (codes "{\"refused\":\"" ++ c.split_at-2.result.0.now) ++ codes "\"}" = grind (arith, common_steps) in
    body
    ∙ ap (λ (t : List ℕ). (codes "{\"refused\":\"" ++ t) ++ codes "\"}") text
    ∙ refused_is c.args.refusal c.refusal_is_plain.ensures
