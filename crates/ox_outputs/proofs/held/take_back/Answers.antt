use Rattle.std.proofs.Common.{ap, ◌∙◌}
use Rattle.ox_outputs.specs.Held.{HeldSlots}
use Rattle.ox_outputs.proofs.PieceLemmas.{cell_there, row_there, updated_there}
use Rattle.ox_outputs.proofs.held.take_back.Goals as goal

pub replace-requires : goal.replace-requires
replace-requires c = cell_there c.held.inside.pieces.items c.args.held.now.slots (ap (λ (h : HeldSlots). h.slots) c.held.view_is) c.args.place c.requires

pub returns-clause-stood : goal.returns-clause-stood
returns-clause-stood c = c.into_row.ensures ∙ row_there c.held.inside.pieces.items c.args.held.now.slots (ap (λ (h : HeldSlots). h.slots) c.held.view_is) c.args.place c.replace.result c.replace.ensures.was

pub returns-clause-updates : goal.returns-clause-updates
returns-clause-updates c = updated_there c.held.inside.pieces.items c.args.held.now.slots (ap (λ (h : HeldSlots). h.slots) c.held.view_is) c.replace.new.pieces.items c.args.place c.free-cell.result _ c.replace.ensures.turns c.free-cell.ensures
