-- How much of some answers is shown.
use Rattle.std.specs.Prelude.{◌≡◌, ℕ, suc, List, [], ◌∷◌, ◌++◌, length, drop}

-- these begin all of those
abbrev pub IsFrontOf : {A : Type 0} → List A → List A → Type 0
IsFrontOf front whole = (rest : List _) × (front ++ rest ≡ whole)

-- with these answers, of how many a byte is shown
unfoldable pub acknowledgements : List (List ℕ) → List ℕ → ℕ
acknowledgements answers [] = 0
acknowledgements [] (b ∷ shown) = 0
acknowledgements (answer ∷ answers) (b ∷ shown) =
    suc (acknowledgements answers (drop (length answer) (b ∷ shown)))
