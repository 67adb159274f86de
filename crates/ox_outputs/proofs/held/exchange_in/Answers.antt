use Rattle.std.proofs.Common.{ap, ◌∙◌}
use Rattle.ox_outputs.specs.Held.{HeldSlots}
use Rattle.ox_outputs.proofs.PieceLemmas.{cell_there, low_place, row_there, updated_there, with_row}
use Rattle.ox_outputs.proofs.held.exchange_in.Goals as goal

pub replace-requires : goal.replace-requires
replace-requires c = cell_there c.held.inside.pieces.items c.args.held.now.slots (ap (λ (h : HeldSlots). h.slots) c.held.view_is) c.args.place c.requires

pub returns-clause-stood : goal.returns-clause-stood
returns-clause-stood c = c.into_row.ensures ∙ row_there c.held.inside.pieces.items c.args.held.now.slots (ap (λ (h : HeldSlots). h.slots) c.held.view_is) c.args.place c.replace.result c.replace.ensures.was

pub returns-clause-updates : goal.returns-clause-updates
returns-clause-updates c =
    updated_there c.held.inside.pieces.items c.args.held.now.slots (ap (λ (h : HeldSlots). h.slots) c.held.view_is) c.replace.new.pieces.items c.args.place c.new-cell.result _ c.replace.ensures.turns
    (c.new-cell.ensures ∙ with_row c.args.held.now.slots c.args.place c.in-Some.at c.args.row (c.in-Some.ensures ∙ c.outpoint_in.ensures))

pub returns-clause-low : goal.returns-clause-low
returns-clause-low c = low_place c.held.inside.pieces.items c.args.place c.held.invariant (cell_there c.held.inside.pieces.items c.args.held.now.slots (ap (λ (h : HeldSlots). h.slots) c.held.view_is) c.args.place c.requires)
