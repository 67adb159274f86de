use Rattle.std.proofs.Common.{ap, ◌∙◌}
use Rattle.ox_outputs.specs.Held.{HeldSlots}
use Rattle.ox_outputs.proofs.PieceLemmas.{end_there}
use Rattle.ox_outputs.proofs.held.end.Goals as goal

pub returns : goal.returns
returns c = end_there c.held.inside.pieces.items c.args.held.now.slots (ap (λ (h : HeldSlots). h.slots) c.held.view_is) c.len.result (c.len.ensures ∙ c.held.inside.pieces.ok.0)
