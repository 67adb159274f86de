use Rattle.std.proofs.Common.{◌≡◌, ◌+◌, ◌^◌, ◌<◌, ◌++◌, length, drop}
use Rattle.ox_range.specs.Runs.{numbers_of}
use Rattle.ox_range_index.specs.Index.{counts_from}
use Rattle.ox_range_index.proofs.counts.counts_of.Given as goal

-- the counts so far, and those of the runs that are left
abbrev pub invariant-loop-run : goal.invariant-loop-run
invariant-loop-run l = record {
  so_far : l.counts.items ++ counts_from l.before (drop l.run-index l.runs) ≡ counts_from 0 l.runs;
  fits : l.before + length (numbers_of (drop l.run-index l.runs)) < 2 ^ 64;
}
