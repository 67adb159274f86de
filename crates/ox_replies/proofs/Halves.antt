-- Both halves of a conjunction that holds.
use Rattle.std.proofs.Common.{◌≡◌, Bool, true, false, ◌&&◌, refl, sym, true≢false}

pub first_half : (a b : Bool) → (a && b) ≡ true → a ≡ true
first_half true b e = refl
first_half false b e = e

pub second_half : (a b : Bool) → (a && b) ≡ true → b ≡ true
second_half true b e = e
second_half false b e = absurd (true≢false (sym e))
