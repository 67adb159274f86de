use Rattle.std.proofs.Common.{◌≡◌, ℕ, List, map, true}
use Rattle.std.specs.List.{list_all}
use Rattle.std.specs.Map.Iter.{deref_pair}
use Rattle.ox_block.specs.declared.block.OutPoint.{OutPoint}
use Rattle.ox_runestone.specs.declared.stone.RuneId.{RuneId}
use Rattle.ox_allocation.specs.Balances.{Balance}
use Rattle.ox_etching.specs.declared.row.RuneRow.{RuneRow}
use Rattle.ox_sound.specs.Amounts.{AreAmounts, burned_in, outputs_in}
use Rattle.ox_sound.specs.Rows.{is_held}
use Rattle.ox_sound.proofs.held.are_held.Given as goal

abbrev pub invariant-loop-at : goal.invariant-loop-at
invariant-loop-at l =
    (runes : List RuneRow) (held : RuneId → ℕ) → AreAmounts l.amounts (burned_in runes) held
    → list_all (is_held runes (outputs_in l.outs)) (map (deref_pair {K = OutPoint} {X = List Balance}) l.yielded) ≡ true
