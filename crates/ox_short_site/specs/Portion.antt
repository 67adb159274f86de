-- How much of a piece is taken at a time.
use Rattle.std.specs.Prelude.{ℕ, ◌-◌, ◌/◌, min}
use Rattle.ox_short_site.specs.declared.portion.Portion.{Portion}
use Rattle.ox_short_site.specs.declared.portion.Portion.TheVariants.{OneByte, Half}

-- how many bytes of so many
abbrev pub bytes_of : Portion → ℕ → ℕ
bytes_of OneByte size = min size 1
bytes_of Half size = size - size / 2
