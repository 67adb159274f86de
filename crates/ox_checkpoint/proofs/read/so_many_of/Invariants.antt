use Rattle.std.proofs.Common.{◌≡◌, ◌-◌}
use Rattle.ox_bytes.specs.Reading.{times}
use Rattle.ox_bytes.proofs.TimesLoop.{with_front}
use Rattle.ox_rows.specs.RowReading.{change_at}
use Rattle.ox_checkpoint.proofs.read.so_many_of.Given as goal

-- those so far and those to come are all
abbrev pub invariant-loop : goal.invariant-loop
invariant-loop l = with_front l.changes (times change_at (l.count - l.counter) l.rest) ≡ times change_at l.count l.bytes
