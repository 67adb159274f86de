use Rattle.std.proofs.Common.{Ok, replicate}
use Rattle.ox_feed.specs.declared.command.Command.TheVariants.{Disconnect}
use Rattle.ox_store.specs.Store.{StoreContents}
use Rattle.ox_drill.specs.Drill.{Carries, StopsOnDisk}
use Rattle.ox_drill.proofs.carry.disconnect_blocks.Given as goal

abbrev pub invariant-loop-done : goal.invariant-loop-done
invariant-loop-done g l = record {
  carries : Carries g.S.Site l.fn.store (replicate l._done Disconnect) (Ok l.store) l.initial.site l.site;
  stops : StopsOnDisk {T = StoreContents} g.S.Site (Ok l.store) l.initial.site l.site;
}
