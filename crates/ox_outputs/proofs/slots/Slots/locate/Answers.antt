use Rattle.std.proofs.Common.{◌∙◌, sym, ap, Option}
use Rattle.std.specs.FinMap as map
use Rattle.ox_rules.specs.declared.rows.OutRow.{OutRow}
use Rattle.ox_outputs.specs.Located.{place_held}
use Rattle.ox_outputs.specs.Slots.{SlotList, outpoint_at, rows_of}
use Rattle.ox_outputs.proofs.PlaceLemmas.{get-at_place}
use Rattle.ox_outputs.proofs.slots.Slots.locate.Goals as goal

pub returns : goal.returns
returns c = λ at is.
    let here = ap (λ (l : SlotList). outpoint_at l c.args.place) c.self.view_is ∙ is in
    c.locate_in.ensures at here
    ∙ ap (λ (row : Option OutRow). place_held at row c.args.sat)
    (sym (get-at_place c.self.inside.held.slots c.args.place at c.self.invariant.apart here) ∙ ap (λ (l : SlotList). map.get (rows_of l) at) c.self.view_is)
