-- A hex digit's value as a number.
use Rattle.std.specs.Prelude.{ℕ, unwrap_or}
use Rattle.hex.specs.Hex.{hex_digit_value}

-- the value of a digit in either case; 255 where it is none
abbrev pub digit_or_none : ℕ → ℕ
digit_or_none c = unwrap_or (hex_digit_value c) 255
