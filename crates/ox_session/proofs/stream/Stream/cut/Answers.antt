-- The body has come, or not.
use Rattle.std.proofs.Common.{◌≡◌, ℕ, ◌+◌, ◌<◌, ◌≤◌, List, length, take, drop, refl, ap, sym, ◌∙◌, arith}
use Rattle.ox_http.specs.First.{Asked, head_length, request_with, whole}
use Rattle.ox_http.proofs.Stays.{front_at}
use Rattle.ox_session.specs.Known.{asked_in}
use Rattle.ox_session.proofs.Coming.{body_short, body_whole}
use Rattle.ox_session.proofs.stream.Stream.cut.Goals as goal

pub split_at-requires : goal.split_at-requires
split_at-requires c =
    let is : c.self.inside.bytes ≡ c.args.self.now = cc in
    let at = front_at c.args.self.now c.args.known.len (asked_in c.args.known) c.requires in
    omega (arith, at.within, ap length (c.as_slice.ensures ∙ is))

pub returns-then-behind-known-clause-cuts : goal.returns-then-behind-known-clause-cuts
returns-then-behind-known-clause-cuts c =
    let is : c.self.inside.bytes ≡ c.args.self.now = cc in
    let known = asked_in c.args.known in
    let short : length c.args.self.now < c.args.known.len + c.args.known.body_len
    = omega (
      arith,
      c.if-behind-known.true,
      c.split_at.ensures.back_len,
      ap length (c.as_slice.ensures ∙ is),
    ) in
    (body_short c.args.self.now c.args.known.len known c.requires short, is)

pub invariant_of-self-in-Ok : goal.invariant_of-self-in-Ok
unfolding head_length
invariant_of-self-in-Ok c = (omega arith, refl, λ known e. absurd (let none : ⊥ = cc in none))

pub returns-in-Ok-clause-cuts : goal.returns-in-Ok-clause-cuts
returns-in-Ok-clause-cuts c =
    let is : c.self.inside.bytes ≡ c.args.self.now = cc in
    let known : Asked = asked_in c.args.known in
    let n : ℕ = c.args.known.len + c.args.known.body_len in
    let there : c.args.known.len + c.args.known.body_len ≤ length c.args.self.now
    = omega (
      arith,
      c.if-behind-known.false,
      c.split_at.ensures.back_len,
      ap length (c.as_slice.ensures ∙ is),
    ) in
    let body : c.in-Ok.body
    ≡ take c.args.known.body_len (drop c.args.known.len c.args.self.now)
    = c.in-Ok.ensures ∙ c.split_at-2.ensures.front
    ∙ ap (take c.args.known.body_len) (c.split_at.ensures.back
    ∙ ap (drop c.args.known.len) (c.as_slice.ensures ∙ is)) in (
      n,
      body_whole c.args.self.now c.args.known.len known c.requires there
          ∙ ap (λ (b : List ℕ). whole (request_with known b) n) (sym body),
      c.take_off.ensures ∙ ap (drop n) is,
    )
