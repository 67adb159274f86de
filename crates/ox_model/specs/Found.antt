-- How a rune is found by its name and by its id, and how much of it outputs hold.
use Rattle.std.specs.Prelude.{ℕ, List, Option, position, ◌==◌}
use Rattle.std.specs.FinMap.{values}
use Rattle.ox_runestone.specs.declared.stone.RuneId.{RuneId}
use Rattle.ox_allocation.specs.Balances.{is_same}
use Rattle.ox_etching.specs.declared.row.RuneRow.{RuneRow}
use Rattle.ox_ledger.specs.Balanced.{amount_held}
use Rattle.ox_model.specs.Index.{Index}

-- the number of the rune with a name
abbrev pub by_name : List RuneRow → ℕ → Option ℕ
by_name runes name = position (λ row. row.name == name) runes

-- the number of the rune with an id
abbrev pub by_id : List RuneRow → RuneId → Option ℕ
by_id runes id = position (λ row. is_same row.id id) runes

-- how much of a rune all outputs hold together
abbrev pub held_of : Index → RuneRow → ℕ
held_of index row = amount_held (values index.bal) row.id
