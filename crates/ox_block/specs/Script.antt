-- What a script is kept as.
use Rattle.std.specs.Prelude.{◌≡◌, ℕ, ◌<◌, ◌≤◌, List, length, take}
use Rattle.ox_block.specs.declared.script.Form.{Form}
use Rattle.ox_block.specs.declared.script.Form.TheVariants.{Inside, Apart}

-- its bytes
abbrev pub bytes_in : Form → List ℕ
bytes_in (Inside len room) = take len room
bytes_in (Apart bytes) = bytes

-- There is room inside for 36 bytes, and more alone are in memory of their own.
abbrev pub IsForm : Form → Type 0
IsForm (Inside len room) = (len ≤ 36) × (length room ≡ 36)
IsForm (Apart bytes) = 36 < length bytes
