use Rattle.std.proofs.Common.{◌∙◌, ap}
use Rattle.ox_outputs.specs.Located.{begins_in}
use Rattle.ox_outputs.specs.Slots.{SlotList}
use Rattle.ox_outputs.proofs.RowLemmas.{begun_at_place}
use Rattle.ox_outputs.proofs.slots.Slots.begins.Goals as goal

pub returns : goal.returns
returns c =
    c.begins_at.ensures ∙ begun_at_place c.self.inside.held.slots c.args.place c.args.first c.self.invariant.apart
    ∙ ap (λ (l : SlotList). begins_in l c.args.place c.args.first) c.self.view_is
