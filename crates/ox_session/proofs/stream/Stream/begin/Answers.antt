-- The front of the stream is read.
use Rattle.std.proofs.Common.{◌≡◌, ℕ, length, take, refl, ap, sym, ◌∙◌, arith}
use Rattle.ox_http.specs.First.{fails, front_of, head_length, waits}
use Rattle.ox_http.specs.Read.{front_in}
use Rattle.ox_session.proofs.Coming.{awaited, front_fault, front_more}
use Rattle.ox_session.proofs.stream.Stream.begin.Goals as goal

pub invariant_of-self : goal.invariant_of-self
invariant_of-self c =
    let front : front_of c.self.inside.bytes ≡ waits
    = ap front_of (sym c.as_slice.ensures) ∙ sym c.read_head.ensures.front
    ∙ ap front_in c.in-Waits.is in (
      omega (arith, ap length c.as_slice-in-Waits.ensures),
      ap (λ (n : ℕ). head_length (take n c.self.inside.bytes))
          (ap length c.as_slice-in-Waits.ensures) ∙ awaited c.self.inside.bytes front,
      c.self.invariant.2,
    )

pub returns-in-Waits-clause-cuts : goal.returns-in-Waits-clause-cuts
returns-in-Waits-clause-cuts c =
    let is : c.self.inside.bytes ≡ c.args.self.now = cc in
    let front : front_of c.args.self.now ≡ waits
    = ap front_of (sym (c.as_slice.ensures ∙ is)) ∙ sym c.read_head.ensures.front
    ∙ ap front_in c.in-Waits.is in
    (front_more c.args.self.now front, is)

pub returns-in-Fails-clause-cuts : goal.returns-in-Fails-clause-cuts
returns-in-Fails-clause-cuts c =
    let is : c.self.inside.bytes ≡ c.args.self.now = cc in
    let front : front_of c.args.self.now ≡ fails c.in-Fails.status
    = ap front_of (sym (c.as_slice.ensures ∙ is)) ∙ sym c.read_head.ensures.front
    ∙ ap front_in c.in-Fails.is in
    (front_fault c.args.self.now c.in-Fails.status front, refl)
