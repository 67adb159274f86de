use Rattle.std.proofs.Common.{◌≡◌, drop}
use Rattle.ox_outputs.specs.Starts.{is_among, firsts_of}
use Rattle.ox_outputs.proofs.held.is_first.Given as goal

-- if one does, it is among those that are left
abbrev pub invariant-loop-run : goal.invariant-loop-run
invariant-loop-run l = is_among (firsts_of (drop l.run-index l.runs)) l.first ≡ is_among (firsts_of l.runs) l.first
