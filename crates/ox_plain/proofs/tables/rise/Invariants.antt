use Rattle.std.proofs.Common.{◌≡◌, drop}
use Rattle.std.specs.FinMap.{is_sorted}
use Rattle.ox_rules.specs.Outputs.{outpoint_cmp}
use Rattle.ox_plain.proofs.TableLemmas.{rises_from}
use Rattle.ox_plain.proofs.tables.rise.Given as goal

-- all rise exactly where those that are left do
abbrev pub invariant-loop-at : goal.invariant-loop-at
invariant-loop-at g l = rises_from outpoint_cmp l.last (drop l.at-index l.rows) ≡ is_sorted outpoint_cmp l.rows
