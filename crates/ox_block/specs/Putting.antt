-- What it is to put bytes behind those that something has taken.
use Rattle.std.specs.Prelude.{ℕ, List, ◌++◌}

-- Whatever it had taken, it has taken that and the text.
abbrev pub Puts : {S : Type 0} → (S → List ℕ → Type 0) → List ℕ → S → S → Type 0
Puts holds text old new = (before : List ℕ) → holds old before → holds new (before ++ text)
