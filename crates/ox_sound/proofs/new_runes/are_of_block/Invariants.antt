use Rattle.std.proofs.Common.{◌≡◌, drop}
use Rattle.std.specs.List.{list_all}
use Rattle.std.specs.Prelude.{◌&&◌}
use Rattle.ox_etching.specs.declared.row.RuneRow.{RuneRow}
use Rattle.ox_sound.specs.Keeps.{has_new_id}
use Rattle.ox_sound.specs.Rows.{is_bounded}
use Rattle.ox_sound.proofs.new_runes.are_of_block.Given as goal

-- all pass exactly where those that are left do
abbrev pub invariant-loop-row : goal.invariant-loop-row
invariant-loop-row l = list_all (λ (row : RuneRow). has_new_id l.p l.height row && is_bounded row) (drop l.row-index l.appended) ≡ list_all (λ (row : RuneRow). has_new_id l.p l.height row && is_bounded row) l.appended
