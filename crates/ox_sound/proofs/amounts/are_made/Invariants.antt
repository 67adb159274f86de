use Rattle.std.proofs.Common.{◌≡◌, ◌+◌, ℕ, take, true}
use Rattle.std.specs.Prelude.{◌==◌, IsTrue}
use Rattle.std.specs.List.{list_all}
use Rattle.ox_runestone.specs.declared.stone.RuneId.{RuneId}
use Rattle.ox_etching.specs.declared.row.RuneRow.{RuneRow}
use Rattle.ox_ledger.specs.Balanced.{made_of}
use Rattle.ox_sound.specs.Amounts.{AreAmounts, burned_in}
use Rattle.ox_sound.specs.Rows.{ids_differ}
use Rattle.ox_sound.proofs.amounts.are_made.Given as goal

abbrev pub invariant-loop-row : goal.invariant-loop-row
invariant-loop-row l =
    (held : RuneId → ℕ) → IsTrue (ids_differ l.runes) → AreAmounts l.amounts (burned_in l.runes) held
    → list_all (λ (row : RuneRow). held row.id + row.burned == made_of row) (take l.row-index l.runes) ≡ true
