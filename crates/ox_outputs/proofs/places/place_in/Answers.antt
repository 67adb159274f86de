use Rattle.std.proofs.Common.{◌∙◌, ap, arith}
use Rattle.ox_outputs.specs.declared.entry.Entry.{Entry}
use Rattle.ox_outputs.specs.Slots.{outpoint_at}
use Rattle.ox_outputs.proofs.ListLemmas.{stands_at}
use Rattle.ox_outputs.proofs.places.place_in.Goals as goal

pub returns-clause-none : goal.returns-clause-none
returns-clause-none c = λ place is found.
    let at = stands_at c.args.list.now _ place is in
    let e : Entry = record { tag = 0; place = 0 } in
    c.loop-entry.invariant at.0 e (omega (arith, at.1, c.loop-entry-test.false)) (at.2 e).0
    (ap (outpoint_at c.args.held.now.slots) (at.2 e).1 ∙ found)
