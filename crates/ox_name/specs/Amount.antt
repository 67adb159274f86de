-- Amounts in decimals (Runes specification, "Divisibility").
use Rattle.std.specs.Prelude.{ℕ, zero, suc, ◌+◌, ◌/◌, ◌%◌, ◌^◌, List, [], ◌∷◌, ◌++◌, ◌==◌}
use Rattle.std.specs.Prelude.{if◌then◌else◌}
use Rattle.std.specs.Prelude.{◌≡◌, ◌≢◌, ◌-◌, ◌*◌, ◌≤◌, length, slice_index}
use Rattle.std.specs.List.{before_first, after_first}
use Rattle.std.specs.Str.Parse.{digits_value}
use Rattle.std.specs.Fmt.{decimal}

-- the decimals of a part of 10 ^ places, to the last that isn't 0
abbrev pub decimals : ℕ → ℕ → List ℕ
decimals zero part = []
decimals (suc places) part =
    if part == 0 then [] else
    (48 + part / 10 ^ places) ∷ decimals places (part % 10 ^ places)

-- the point, where decimals follow it
abbrev pub with_point : List ℕ → List ℕ
with_point [] = []
with_point (c ∷ cs) = 46 ∷ c ∷ cs

-- an amount of units, of which 10 ^ divisibility are one rune
unfoldable pub amount_text : ℕ → ℕ → List ℕ
amount_text amount divisibility =
    decimal (amount / 10 ^ divisibility)
    ++ with_point (decimals divisibility (amount % 10 ^ divisibility))

-- ---- what a text says

-- the digits before the point, and those behind it
abbrev pub whole_in : List ℕ → List ℕ
whole_in text = before_first (λ c. c == 46) text

abbrev pub decimals_in : List ℕ → List ℕ
decimals_in text = after_first (λ c. c == 46) text

-- the units that a text stands for
abbrev pub units_in : ℕ → List ℕ → ℕ
units_in divisibility text =
    digits_value 10 (whole_in text) * 10 ^ divisibility
    + digits_value 10 (decimals_in text) * 10 ^ (divisibility - length (decimals_in text))

-- the text stands for the amount, and no zero stands at the end of its decimals
pub record SaysAmount (amount divisibility : ℕ) (text : List ℕ) : Type 0 where
  pub value : units_in divisibility text ≡ amount
  pub few : length (decimals_in text) ≤ divisibility
  pub no_zero_at_end : slice_index (decimals_in text) (length (decimals_in text) - 1) ≢ 48
