use Rattle.std.proofs.Common.{◌∷◌, sym, ap, ◌∙◌}
use Rattle.ox_script.specs.Script.{instruction_of}
use Rattle.ox_runestone.proofs.PayloadLoops.{joins_op, joins_cut, joins_all}
use Rattle.ox_runestone.proofs.payload.payload_of.Goals as goal

pub returns-in-Op : goal.returns-in-Op
returns-in-Op c = joins_op c.args.script.now c.loop-item.payload.items c.in-Op.field-0 c.loop-item.items c.next.new.self c.loop-item.invariant (c.in-Some.ensures.steps.0 ∙ ap (λ i. instruction_of i ∷ c.next.new.self.left) c.in-Op.is)

pub returns-then-met_cut : goal.returns-then-met_cut
returns-then-met_cut c = joins_cut c.args.script.now (sym c.loop-item.invariant.ends ∙ sym c.in_default.ensures.steps.3 ∙ sym c.if-met_cut.ensures)

pub returns : goal.returns
returns c = joins_all c.args.script.now c.loop-item.payload.items c.loop-item.items c.loop-item.invariant c.in_default.ensures.steps.0 (sym c.loop-item.invariant.ends ∙ sym c.in_default.ensures.steps.3 ∙ sym c.if-met_cut.ensures)
