use Rattle.std.proofs.Common.{◌≡◌, ◌-◌}
use Rattle.ox_bytes.specs.Reading.{times}
use Rattle.ox_bytes.proofs.TimesLoop.{with_front}
use Rattle.ox_rows.proofs.lists.values_of.Given as goal

-- those so far and those to come are all
abbrev pub invariant-loop : goal.invariant-loop
invariant-loop g l = with_front l.values (times g.T.Readable.at (l.count - l.counter) l.rest) ≡ times g.T.Readable.at l.count l.bytes
