use Rattle.std.proofs.Common.{◌≡◌, ◌+◌, ◌≤◌, Some, None, List}
use Rattle.std.specs.Prelude.{IsTrue}
use Rattle.ox_outside.specs.Counts.{NoFault}
use Rattle.ox_outside.specs.Event.{Event}
use Rattle.ox_outside.specs.Runs.{Calls, LeavesOnly}
use Rattle.ox_app.proofs.TurnsGoOn.{Lasts, WentOn}
use Rattle.ox_app.proofs.server.go_round.Given as goal

abbrev pub invariant-loop : goal.invariant-loop
invariant-loop g l =
    Calls g.S.Site l.initial.site l.site
    × NoFault (g.S.Site.counts l.initial.site) (g.S.Site.counts l.site)
    × (g.S.Site.log l.initial.site ≡ None → g.S.Site.log l.site ≡ None)
    × ((past : List Event) → g.S.Site.log l.initial.site ≡ Some past
    → WentOn g.D.Desk.server g.D.Desk.state g.D.Desk.moved g.D.Desk.same l.counter past (g.S.Site.counts l.initial.site) l.initial.desk l.turns
    (g.S.Site.log l.site) (g.S.Site.counts l.site) l.desk)
    × (IsTrue (g.S.Site.told l.initial.site) → LeavesOnly g.S.Site l.initial.site l.site
    (Lasts g.S.Site g.D.Desk.server (g.D.Desk.state l.initial.desk) g.D.Desk.stands l.initial.site))
    × g.D.Desk.rests l.desk l.site
    × (g.D.Desk.asked l.desk ≤ g.D.Desk.asked l.initial.desk + l.counter)
