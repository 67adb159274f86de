-- Both sides of a colon behind 64 bytes.
use Rattle.std.specs.Prelude.{◌≡◌, ℕ, List, ◌∷◌, ◌++◌, length}

abbrev pub Sides : List ℕ → List ℕ → List ℕ → Type 0
Sides text digits rest = (text ≡ digits ++ 58 ∷ rest) × (length digits ≡ 64)
