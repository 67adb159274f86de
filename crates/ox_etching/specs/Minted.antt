-- Open mints: Runes specification, "Minting".
use Rattle.std.specs.Prelude.{ℕ, ◌+◌, ◌-◌, ◌^◌, Bool, true, ◌&&◌, Option, Some, None, min}
use Rattle.std.specs.Prelude.{unwrap_or, nat_le, nat_lt}
use Rattle.std.specs.Prelude.{if◌then◌else◌}
use Rattle.std.specs.Option.{option_map, option_map_or}
use Rattle.ox_runestone.specs.declared.stone.Terms.{Terms}
use Rattle.ox_etching.specs.declared.row.RuneRow.{RuneRow}

-- an offset is counted from the etching's height, up to the greatest number of 64 bits
abbrev pub height_behind : ℕ → ℕ → ℕ
height_behind etched offset = min (etched + offset) (2 ^ 64 - 1)

-- a start that is given has come
abbrev pub has_come : ℕ → Option ℕ → Bool
has_come height start = option_map_or (λ first. nat_le first height) start true

-- an end that is given hasn't come
abbrev pub is_ahead : ℕ → Option ℕ → Bool
is_ahead height end = option_map_or (λ first. nat_lt height first) end true

-- within the given starts and ends, of a rune etched at a height
abbrev pub is_within : Terms → ℕ → ℕ → Bool
is_within terms etched height =
    has_come height terms.height_start
    && has_come height (option_map (height_behind etched) terms.offset_start)
    && is_ahead height terms.height_end
    && is_ahead height (option_map (height_behind etched) terms.offset_end)

-- A mint is open within the starts and ends, while there were fewer than the cap. A cap that is
-- missing is 0.
abbrev pub is_open : RuneRow → Terms → ℕ → Bool
is_open row terms height =
    nat_lt row.mints (unwrap_or terms.cap 0) && is_within terms row.id.block height

-- what an open mint gives: an amount that is missing is 0, which counts as a mint all the same
abbrev pub minted_by : RuneRow → ℕ → Option Terms → Option ℕ
minted_by row height None = None
minted_by row height (Some terms) =
    if is_open row terms height then Some (unwrap_or terms.amount 0) else None

-- what a mint gives at a height, where it is open; without terms none is
abbrev pub minted : RuneRow → ℕ → Option ℕ
minted row height = minted_by row height row.terms
