use Rattle.std.proofs.Common.{◌≡◌, ◌∙◌, ◌-◌, ℕ, List, length, ap, sym, arith, length-drop}
use Rattle.ox_feed.specs.Feed.{Feed}
use Rattle.ox_follow.proofs.Reading.{whole_is_there}
use Rattle.ox_pieces.proofs.frames.Frames.pass.Goals as goal

pub invariant_of-self : goal.invariant_of-self
invariant_of-self c =
    let whole = rw c.in-Ok-Some.field-0-is at c.in-Ok-Some.ensures in
    let there = whole_is_there _ _ c.in-Ok-Some.used whole in
    let most = there.1 in
    let size : length c.rest.result.now ≡ length c.self.inside.bytes.items - c.self.inside.passed =
    ap (λ (l : List ℕ). length l) c.rest.ensures ∙ ap (λ (f : Feed). length f.rest) (sym c.self.view_is) ∙ length-drop c.self.inside.passed c.self.inside.bytes.items in
    (omega (arith, most, size, c.self.invariant.0, c.self.inside.bytes.ok.0), c.self.invariant.1, omega (arith, c.self.invariant.2))
