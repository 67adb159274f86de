use Rattle.std.proofs.Common.{◌≡◌, ◌++◌}
use Rattle.ox_plain.proofs.tables.copy_table.Given as goal

-- those so far and those that are left are all
abbrev pub invariant-loop-at : goal.invariant-loop-at
invariant-loop-at g l = l.copy.entries ++ l.at-iterator ≡ l.table.entries
