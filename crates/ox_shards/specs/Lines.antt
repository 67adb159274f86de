-- How keys are spread over lines whose number grows one by one.
use Rattle.std.specs.Prelude.{◌≡◌, ◌⊎◌, ℕ, ◌+◌, ◌-◌, ◌%◌, ◌^◌, ◌<◌, ◌==◌, Bool, nat_lt, if◌then◌else◌}
use Rattle.ox_shards.specs.declared.lines.Lines.{Lines}

-- the line to which a number leads, where it is counted from the first line to twice the power
abbrev pub unless_above : ℕ → ℕ → ℕ → ℕ
unless_above level count line = if nat_lt line count then line else (line - 2 ^ level)

-- the line to which a number leads: what is left of it by twice the power, and less the power where
-- there is no such line yet
abbrev pub line_of : Lines → ℕ → ℕ
line_of lines spread = unless_above lines.level lines.count (spread % 2 ^ (lines.level + 1))

-- whether a number leads to the last line
abbrev pub is_last : Lines → ℕ → Bool
is_last lines spread = line_of lines spread + 1 == lines.count

-- There is one more line. Numbers lead where they led, or from this line to the new one.
pub record Splits (old new : Lines) (from : ℕ) : Type 0 where
  pub more : new.count ≡ old.count + 1
  pub among : from < old.count
  pub leads : (spread : ℕ) → (line_of new spread ≡ line_of old spread)
      ⊎ ((line_of old spread ≡ from) × (line_of new spread ≡ old.count))
