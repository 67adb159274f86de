use Rattle.std.proofs.Common.{◌≡◌, not, take, true}
use Rattle.std.specs.BTreeSet.{contains}
use Rattle.std.specs.List.{list_all}
use Rattle.std.specs.Ordering.{nat_cmp}
use Rattle.ox_etching.specs.declared.row.RuneRow.{RuneRow}
use Rattle.ox_sound.proofs.new_runes.are_named_apart.Given as goal

abbrev pub invariant-loop-row : goal.invariant-loop-row
invariant-loop-row l = list_all (λ (row : RuneRow). not (contains nat_cmp l.names row.name)) (take l.row-index l.runes) ≡ true
