use Rattle.std.proofs.Common.{◌∙◌, sym, ap}
use Rattle.std.specs.FinMap as map
use Rattle.ox_outputs.specs.Slots.{SlotList, outpoint_at, put_slot, rows_of}
use Rattle.ox_outputs.proofs.PlaceLemmas.{get-at_place, exchanged, rows_put, row_with}
use Rattle.ox_outputs.proofs.slots.Slots.exchange.Goals as goal

pub returns-clause-held : goal.returns-clause-held
returns-clause-held c = λ at is.
    let here = ap (λ (l : SlotList). outpoint_at l c.args.place) c.self.view_is ∙ is in
    c.exchange_in.ensures.stood ∙ sym (get-at_place c.self.inside.held.slots c.args.place at c.self.invariant.apart here)
    ∙ ap (λ (l : SlotList). map.get (rows_of l) at) c.self.view_is

pub returns-clause-rows : goal.returns-clause-rows
returns-clause-rows c = λ at is.
    let held = c.self.inside.held in
    let here = ap (λ (l : SlotList). outpoint_at l c.args.place) c.self.view_is ∙ is in
    let change = exchanged held c.exchange_in.new.held c.args.place at c.args.row c.self.invariant.apart here c.exchange_in.ensures.updates in
    rows_put change c.args.row (row_with held c.args.place at c.args.row here)
    ∙ ap (λ (l : SlotList). put_slot (rows_of l) at c.args.row) c.self.view_is
