use Rattle.std.specs.Prelude.{◌≡◌, ◌≢◌, ℕ, ◌+◌, ◌<◌, ◌⊎◌, List, ◌∷◌, ◌++◌, length, slice_index}
use Rattle.std.specs.Prelude.{decimal, ◌-◌, Bool, ◌&&◌, ◌==◌, Option, Some, None, nat_lt}
use Rattle.std.specs.Prelude.{if◌then◌else◌}
use Rattle.std.specs.List.{before_first, after_first}
use Rattle.std.specs.Option.{option_or}
use Rattle.std.specs.Str.{bytes_eq}
use Rattle.std.specs.Str.Parse.{digits_value}
use Rattle.ox_sat.specs.declared.profiles.Profile.{Profile}
use Rattle.ox_sat.specs.Heights.{subsidy_at, first_at}
use Rattle.ox_sat.specs.Names.{IsNameOf, letters_value, name_of}

-- the satoshi's number in decimal digits, with no sign and no leading zero
pub record IsNumberOf (p : Profile) (sat : ℕ) (text : List ℕ) : Type 0 where
  pub digits : text ≡ decimal sat
  pub minted : sat < p.supply

-- the satoshi's height and its place in that block, both in decimal digits, with a point between
pub record IsDecimalOf (p : Profile) (sat : ℕ) (text : List ℕ) : Type 0 where
  pub height : ℕ
  pub offset : ℕ
  pub digits : text ≡ decimal height ++ 46 ∷ decimal offset
  pub within : offset < subsidy_at p height
  pub is : sat ≡ first_at p height + offset

-- one of the three spellings of the satoshi
abbrev pub Spells : Profile → ℕ → List ℕ → Type 0
Spells p sat text = IsNumberOf p sat text ⊎ IsDecimalOf p sat text ⊎ IsNameOf p sat text

-- the number, where the test passes
abbrev pub only_if : Bool → ℕ → Option ℕ
only_if test n = if test then Some n else None

-- the satoshi that a text spells, if any: the text is read as a number, as a decimal and as a name,
-- and counts where what was read is a satoshi that is written so
abbrev pub sat_in : Profile → List ℕ → Option ℕ
sat_in p text =
    let number = digits_value 10 text in
    let height = digits_value 10 (before_first (λ c. c == 46) text) in
    let offset = digits_value 10 (after_first (λ c. c == 46) text) in
    let named = p.supply - letters_value text in
    let is_number = nat_lt number p.supply && bytes_eq text (decimal number) in
    let is_decimal =
    nat_lt offset (subsidy_at p height) && bytes_eq text (decimal height ++ 46 ∷ decimal offset) in
    let is_name = nat_lt named p.supply && bytes_eq text (name_of p named) in
    option_or (only_if is_number number)
    (option_or (only_if is_decimal (first_at p height + offset)) (only_if is_name named))

-- neither a plus nor a zero stands in front, but for the zero of `0`
abbrev pub IsPlain : List ℕ → Type 0
IsPlain text = (slice_index text 0 ≢ 43) × (slice_index text 0 ≡ 48 → length text ≡ 1)
