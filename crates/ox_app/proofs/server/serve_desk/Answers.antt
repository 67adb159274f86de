use Rattle.std.proofs.Common.{List, sym, subst}
use Rattle.std.specs.Prelude.{[], Option}
use Rattle.ox_turns.specs.Follows.{Follows}
use Rattle.ox_turns.specs.declared.slot.Slot.{Slot}
use Rattle.ox_app.proofs.TurnsGoOn.{follows_none}
use Rattle.ox_app.proofs.server.serve_desk.Goals as goal

pub go_round-requires-clause-follows : goal.go_round-requires-clause-follows
go_round-requires-clause-follows g c log is =
    let desk = g.D.Desk in
    let state = desk.state c.args.desk.now in
    subst (λ (slots : List (Option Slot)). Follows desk.server (record { log = log; state = state }) [] slots state) (sym c.in-Ok.ensures.slots) (follows_none desk.server log state)
