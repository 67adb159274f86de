use Rattle.std.proofs.Common.{◌-◌, None}
use Rattle.ox_rows.specs.Coming.{IsAhead}
use Rattle.ox_rows.specs.Reading.{rising_at}
use Rattle.ox_rows.proofs.Ahead.{SoFar}
use Rattle.ox_rows.proofs.lists_from.rising_from.Given as goal

-- those so far and those to come are all
abbrev pub invariant-loop : goal.invariant-loop
invariant-loop g l = record {
  so_far : SoFar (IsAhead (g.S.Source.comes l.fn.source l.fn.world) l.fn.window) (IsAhead (g.S.Source.comes l.source l.world) l.window) l.rows.items (rising_at g.K.Ord.cmp g.K.Readable.at g.X.Readable.at None l.count) (rising_at g.K.Ord.cmp g.K.Readable.at g.X.Readable.at l.last (l.count - l.counter));
  ready : g.S.Source.ready l.source l.world;
  went : g.S.Source.went l.fn.source l.fn.world l.source l.world;
}
