use Rattle.std.proofs.Common.{◌≡◌, ◌-◌, None}
use Rattle.ox_bytes.proofs.TimesLoop.{with_front}
use Rattle.ox_rows.specs.Reading.{rising_at}
use Rattle.ox_rows.proofs.rising.rising_of.Given as goal

-- those so far and those to come are all
abbrev pub invariant-loop : goal.invariant-loop
invariant-loop g l = with_front l.rows.items (rising_at g.K.Ord.cmp g.K.Readable.at g.X.Readable.at l.last (l.count - l.counter) l.rest) ≡ rising_at g.K.Ord.cmp g.K.Readable.at g.X.Readable.at None l.count l.bytes
