-- When a rune can be minted (Runes specification, "Minting"), said without the steps of the test.
use Rattle.std.specs.Prelude.{◌≡◌, ◌⊎◌, ◌<◌, ◌≤◌, ℕ, Some, unwrap_or}
use Rattle.ox_runestone.specs.declared.stone.Terms.{Terms}
use Rattle.ox_etching.specs.declared.row.RuneRow.{RuneRow}
use Rattle.ox_etching.specs.Minted.{height_behind}

-- a height from which on the terms let a rune be minted: one that is given, or an offset from the
-- height of its etching
abbrev pub IsStart : RuneRow → Terms → ℕ → Type 0
IsStart row terms start =
    (terms.height_start ≡ Some start)
    ⊎ ((offset : ℕ) × (terms.offset_start ≡ Some offset)
    × (start ≡ height_behind row.id.block offset))

-- a height from which on they don't
abbrev pub IsEnd : RuneRow → Terms → ℕ → Type 0
IsEnd row terms end =
    (terms.height_end ≡ Some end)
    ⊎ ((offset : ℕ) × (terms.offset_end ≡ Some offset) × (end ≡ height_behind row.id.block offset))

-- The rune has terms, was minted fewer times than their cap, and the height is at or past each
-- start and before each end.
pub record IsMintable (row : RuneRow) (height : ℕ) : Type 0 where
  pub terms : Terms
  pub given : row.terms ≡ Some terms
  pub below : row.mints < unwrap_or terms.cap 0
  pub begun : (start : ℕ) → IsStart row terms start → start ≤ height
  pub not_ended : (end : ℕ) → IsEnd row terms end → height < end
