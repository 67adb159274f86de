use Rattle.std.proofs.Common.{◌≡◌, ◌++◌, drop}
use Rattle.ox_index.proofs.live.plain.copy_of.Given as goal

-- with those that are left they are all
abbrev pub invariant-loop-id : goal.invariant-loop-id
invariant-loop-id l = l.pool ++ drop l.id-index l.held ≡ l.held
