use Rattle.std.proofs.Common.{◌∷◌, sym, ap, ◌∙◌}
use Rattle.ox_script.specs.Script.{instruction_of}
use Rattle.ox_runestone.proofs.PayloadLoops.{pushed_alone}
use Rattle.ox_runestone.proofs.payload.only_push.Goals as goal

pub returns : goal.returns
returns c =
    pushed_alone c.args.script.now c.in-Some-Push.payload.now c.instructions_of-items.result c.next-return.new.self c.next-mark.new.self c.next.new.self c.next-2.new.self c.next-return.result c.next-mark.result c.next-2.result
    c.instructions_of-items.ensures.items c.instructions_of-items.ensures.ends c.next-return.ensures.steps c.next-mark.ensures.steps
    (c.in-Some-Push.ensures.steps.0 ∙ ap (λ i. instruction_of i ∷ c.next.new.self.left) c.in-Some-Push.field-0-is) c.in-Some-Push.ensures.steps.1 c.next-2.ensures.steps
    (sym c.is_some.ensures ∙ c.if-is_some.false) (sym c.met_cut.ensures ∙ c.if-met_cut.false)
