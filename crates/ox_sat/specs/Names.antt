use Rattle.std.specs.Prelude.{◌≡◌, ℕ, zero, suc, ◌+◌, ◌-◌, ◌*◌, ◌/◌, ◌%◌, ◌<◌, ◌≤◌, List, [], ◌∷◌}
use Rattle.std.specs.Prelude.{◌++◌, length, All, fold}
use Rattle.ox_sat.specs.declared.profiles.Profile.{Profile}

-- a letter a to z
abbrev pub IsLetter : ℕ → Type 0
IsLetter c = (97 ≤ c) × (c ≤ 122)

-- the number that letters write, counting a, b, .. z, aa, ab, .. from 1
abbrev pub letters_value : List ℕ → ℕ
letters_value text = fold (λ x c. 26 * x + (c - 96)) 0 text

-- the letters of a number x, in front of which goes the letter of the place of x - 1 among 26 as
-- long as x isn't 0; at most so many
unfoldable pub letters : ℕ → ℕ → List ℕ
letters zero x = []
letters (suc most) zero = []
letters (suc most) (suc y) = letters most (y / 26) ++ (97 + y % 26) ∷ []

-- the name of a satoshi: the letters of its distance from the supply, so that the last satoshi
-- is named a and the first has eleven letters
abbrev pub name_of : Profile → ℕ → List ℕ
name_of p sat = letters 11 (p.supply - sat)

-- one to eleven letters that write the satoshi's distance from the supply
pub record IsNameOf (p : Profile) (sat : ℕ) (text : List ℕ) : Type 0 where
  pub letters : All IsLetter text
  pub some : 0 < length text
  pub few : length text ≤ 11
  pub value : letters_value text + sat ≡ p.supply
