use Rattle.std.proofs.Common.{◌≤◌, ◌+◌, ◌-◌, length}
use Rattle.std.specs.Prelude.{IsTrue, slice_range}
use Rattle.ox_outside.specs.Counts.{NoFault}
use Rattle.ox_outside.specs.Files.{file_of}
use Rattle.ox_outside.specs.Runs.{OnlyLooks}
use Rattle.sha2.specs.Hashers.{Holds256}
use Rattle.ox_gated.proofs.parts.sum_of_body.Given as goal

abbrev pub invariant-pieces : goal.invariant-pieces
invariant-pieces g l = record {
  within : l.read ≤ l.fn.size;
  room : 1 ≤ length l.room;
  looks : OnlyLooks g.S.Site l.initial.site l.site;
  counted : NoFault (g.S.Site.counts l.initial.site) (g.S.Site.counts l.site);
  hashed : IsTrue (g.S.Site.told l.initial.site) → Holds256 l.hasher (slice_range (file_of (g.S.Site.seen l.initial.site) l.fn.file) 90 (90 + l.read));
}

abbrev pub decreases-pieces : goal.decreases-pieces
decreases-pieces g l = l.size - l.read
