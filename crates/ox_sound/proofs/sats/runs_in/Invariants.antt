use Rattle.std.proofs.Common.{◌≡◌, ◌++◌, All}
use Rattle.std.specs.BTreeMap.{values}
use Rattle.ox_range.specs.Runs.{numbers_of}
use Rattle.ox_rules.specs.Outputs.{sats_of}
use Rattle.ox_sound.specs.Once.{IsRun}
use Rattle.ox_sound.proofs.sats.runs_in.Given as goal

-- the runs so far, and the outputs that are left
abbrev pub invariant-loop-row : goal.invariant-loop-row
invariant-loop-row l = record {
  numbers : numbers_of l.runs.items ++ sats_of l.row-iterator ≡ sats_of (values l.outs);
  runs : All IsRun l.runs.items;
}
