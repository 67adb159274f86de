use Rattle.std.proofs.Common.{◌≡◌, drop, not}
use Rattle.std.specs.List.{list_all}
use Rattle.std.specs.Prelude.{◌||◌}
use Rattle.ox_block.specs.declared.block.OutPoint.{OutPoint}
use Rattle.ox_rules.specs.declared.rows.OutRow.{OutRow}
use Rattle.ox_plain.specs.Plain.{index_in}
use Rattle.ox_sound.specs.Keeps.{has_runes_after, is_output_after}
use Rattle.ox_sound.proofs.moved_places.do_leave_nothing.Given as goal

-- all pass exactly where those that are left do
abbrev pub invariant-loop-at : goal.invariant-loop-at
invariant-loop-at l = list_all (λ (row : OutPoint × OutRow). is_output_after (index_in l.before) l.change row.0 || not (has_runes_after (index_in l.before) l.change row.0)) (drop l.at-index l.gone) ≡ list_all (λ (row : OutPoint × OutRow). is_output_after (index_in l.before) l.change row.0 || not (has_runes_after (index_in l.before) l.change row.0)) l.gone
