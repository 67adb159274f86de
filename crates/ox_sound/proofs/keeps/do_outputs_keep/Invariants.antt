use Rattle.std.proofs.Common.{◌≡◌, drop}
use Rattle.std.specs.List.{list_all}
use Rattle.std.specs.Prelude.{nat_le}
use Rattle.ox_block.specs.declared.block.OutPoint.{OutPoint}
use Rattle.ox_rules.specs.declared.rows.OutRow.{OutRow}
use Rattle.ox_sound.proofs.keeps.do_outputs_keep.Given as goal

-- all pass exactly where those that are left do
abbrev pub invariant-loop-row : goal.invariant-loop-row
invariant-loop-row l = list_all (λ (row : OutPoint × OutRow). nat_le row.1.height l.height) (drop l.row-index l.came) ≡ list_all (λ (row : OutPoint × OutRow). nat_le row.1.height l.height) l.came
