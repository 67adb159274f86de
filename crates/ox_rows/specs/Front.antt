-- Readers that look at nothing behind what they take.
use Rattle.std.specs.Prelude.{◌≡◌, ℕ, List, ◌++◌, Ok}
use Rattle.ox_bytes.specs.Reading.{Reader}

-- Of these bytes it takes the front, and does so whatever follows this.
pub record TakesFront {A : Type 0} (read : Reader A) (bytes : List ℕ) (x : A × List ℕ)
    : Type 0 where
  pub front : List ℕ
  pub parts : bytes ≡ front ++ x.1
  pub again : (rest : List ℕ) → read (front ++ rest) ≡ Ok (x.0, rest)

-- So it does wherever it gives a value.
abbrev pub ReadsFronts : {A : Type 0} → Reader A → Type 0
ReadsFronts {A} read =
    (bytes : List ℕ) (x : A × List ℕ) → read bytes ≡ Ok x → TakesFront read bytes x
