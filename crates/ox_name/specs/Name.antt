-- Names of runes: texts of the letters A to Z, counted by length and then by the alphabet. A is 0,
-- Z is 25, AA is 26 (Runes specification, "Name").
use Rattle.std.specs.Prelude.{◌≡◌, ℕ, zero, suc, ◌+◌, ◌-◌, ◌*◌, ◌/◌, ◌%◌, ◌^◌, ◌<◌, ◌≤◌, List, []}
use Rattle.std.specs.Prelude.{◌∷◌, ◌++◌, length, All, replicate, nat_lt, if◌then◌else◌}

abbrev pub IsLetter : ℕ → Type 0
IsLetter c = (65 ≤ c) × (c ≤ 90)

abbrev pub IsName : List ℕ → Type 0
IsName text = (0 < length text) × All IsLetter text

-- the number of a name with one letter more behind it
abbrev pub number_with : ℕ → ℕ → ℕ
number_with n c = 26 * (n + 1) + (c - 65)

abbrev pub number_after : ℕ → List ℕ → ℕ
number_after n [] = n
number_after n (c ∷ cs) = number_after (number_with n c) cs

-- the number of a name
abbrev pub number_of : List ℕ → ℕ
number_of [] = 0
number_of (c ∷ cs) = number_after (c - 65) cs

-- the name of a number, where it may have more letters than one
abbrev pub name_within : ℕ → ℕ → List ℕ
name_within zero n = (65 + n) ∷ []
name_within (suc more) n =
    if nat_lt n 26 then (65 + n) ∷ [] else name_within more (n / 26 - 1) ++ (65 + n % 26) ∷ []

-- the name of a number of 128 bits, which has at most 28 letters
unfoldable pub name_of : ℕ → List ℕ
name_of n = name_within 27 n

-- the number of the first name that has so many letters more than one: of the name of letters A
-- alone
abbrev pub first_of : ℕ → ℕ
first_of more = number_of (replicate (suc more) 65)

-- Each number of 128 bits has a name, which is its only one.
pub record AreOneToOne : Type 0 where
  pub named : (n : ℕ) → n < 2 ^ 128 → IsName (name_of n)
  pub numbered : (n : ℕ) → n < 2 ^ 128 → number_of (name_of n) ≡ n
  pub only : (text : List ℕ) → IsName text → number_of text < 2 ^ 128 →
      name_of (number_of text) ≡ text
  pub apart : (a b : List ℕ) → IsName a → IsName b → number_of a ≡ number_of b → a ≡ b
