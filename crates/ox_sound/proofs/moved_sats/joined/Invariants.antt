use Rattle.std.proofs.Common.{◌≡◌, take}
use Rattle.ox_range.specs.Runs.{numbers_of}
use Rattle.ox_sound.proofs.moved_sats.joined.Given as goal

-- the numbers of the runs so far
abbrev pub invariant-loop-run : goal.invariant-loop-run
invariant-loop-run l = l.list ≡ numbers_of (take l.run-index l.runs)
