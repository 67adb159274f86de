use Rattle.std.proofs.Common.{◌≡◌}
use Rattle.std.specs.Prelude.{IsTrue}
use Rattle.ox_gated.specs.Tail.{Holds}
use Rattle.ox_run_rows.proofs.carry.carry_out_all.Given as goal

abbrev pub invariant-loop-command : goal.invariant-loop-command
invariant-loop-command g l =
    (g.S.Site.told l.site ≡ g.S.Site.told l.initial.site)
    × (IsTrue (g.S.Site.told l.initial.site) → Holds g.S.Site l.store.tail l.site)
