use Rattle.std.proofs.Common.{◌≡◌, ◌+◌, Ok}
use Rattle.ox_store.specs.Store.{StoreContents}
use Rattle.ox_drill.specs.Blocks.{behind_of}
use Rattle.ox_drill.specs.Chain.{blocks_from, connects}
use Rattle.ox_drill.specs.Drill.{Carries, StopsOnDisk}
use Rattle.ox_drill.proofs.carry.connect_blocks.Given as goal

abbrev pub invariant-loop-done : goal.invariant-loop-done
invariant-loop-done g l = record {
  next : l.behind ≡ behind_of (l.fn.behind.height + l._done);
  carries : Carries g.S.Site l.fn.store (connects (blocks_from l.fn.behind.height l._done)) (Ok l.store) l.initial.site l.site;
  stops : StopsOnDisk {T = StoreContents} g.S.Site (Ok l.store) l.initial.site l.site;
}
