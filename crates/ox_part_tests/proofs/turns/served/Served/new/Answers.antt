use Rattle.std.proofs.Common.{ℕ, List, [], Option, sym, subst}
use Rattle.std.proofs.lemmas.List.{append-nil}
use Rattle.ox_memsite.specs.World.{log_of}
use Rattle.ox_turns.specs.Follows.{Follows, Start}
use Rattle.ox_turns.specs.declared.slot.Slot.{Slot}
use Rattle.ox_part_tests.specs.OneReply.{server}
use Rattle.ox_part_tests.proofs.turns.served.Served.new.Goals as goal

pub returns : goal.returns
returns g c =
    let log = log_of c.args.site in
    let start : Start ℕ = record { log = log; state = 0 } in
    (start, [], sym (append-nil log), subst (λ (slots : List (Option Slot)). Follows server start [] slots 0) (sym c.in-Ok.ensures.slots) (c.empty_slots_follow.ensures server log 0))
