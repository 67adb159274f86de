use Rattle.std.proofs.Common.{◌≡◌, ◌++◌, drop}
use Rattle.ox_index.proofs.live.plain.table_of.Given as goal

-- with the rows that are left they are all
abbrev pub invariant-loop-n : goal.invariant-loop-n
invariant-loop-n l = l.table.entries ++ drop l.n l.order ≡ l.order
