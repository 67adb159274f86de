use Rattle.std.proofs.Common.{◌∙◌, sym, ap}
use Rattle.std.specs.FinMap as map
use Rattle.ox_outputs.specs.Slots.{SlotList, outpoint_at, rows_of}
use Rattle.ox_outputs.proofs.PlaceLemmas.{get-at_place}
use Rattle.ox_outputs.proofs.slots.Slots.row.Goals as goal

pub returns-clause-row : goal.returns-clause-row
returns-clause-row c = λ at is.
    let here = ap (λ (l : SlotList). outpoint_at l c.args.place) c.self.view_is ∙ is in
    c.row_in.ensures.row ∙ sym (get-at_place c.self.inside.held.slots c.args.place at c.self.invariant.apart here)
    ∙ ap (λ (l : SlotList). map.get (rows_of l) at) c.self.view_is
