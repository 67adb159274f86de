use Rattle.std.proofs.Common.{◌≡◌, ◌-◌, ◌+◌, ◌≤◌, None, length}
use Rattle.ox_bytes.proofs.TimesLoop.{with_front}
use Rattle.ox_block.specs.Spelling.{most_value}
use Rattle.ox_rows.specs.Reading.{runs_at}
use Rattle.ox_rows.proofs.sats.runs_of.Given as goal

-- those so far and those to come are all, and there is room for the spare ones
abbrev pub invariant-loop : goal.invariant-loop
invariant-loop l = record {
  all : with_front l.sats (runs_at l.spare l.end (l.count - l.counter) l.rest) ≡ runs_at most_value None l.count l.bytes;
  room : length l.sats + l.spare ≤ most_value;
}
