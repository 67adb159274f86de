use Rattle.std.proofs.Common.{◌≡◌, ◌++◌, All, drop}
use Rattle.ox_range.specs.Runs.{numbers_of}
use Rattle.ox_sound.specs.Keeps.{sats_in}
use Rattle.ox_sound.specs.Once.{IsRun}
use Rattle.ox_sound.proofs.moved_sats.runs_in.Given as goal

-- the runs so far, and the rows that are left
abbrev pub invariant-loop-row : goal.invariant-loop-row
invariant-loop-row l = record {
  numbers : numbers_of l.runs.items ++ sats_in (drop l.row-index l.rows) ≡ sats_in l.rows;
  runs : All IsRun l.runs.items;
}
