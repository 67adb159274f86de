use Rattle.std.proofs.Common.{sym, arith}
use Rattle.std.proofs.lemmas.List.{take_rest}
use Rattle.ox_runestone.specs.Message.{edicts_of}
use Rattle.ox_runestone.proofs.MessageLoops.{edicts_start, edicts_go_on}
use Rattle.ox_runestone.proofs.message.edicts_of.Goals as goal

pub loop-rest-init : goal.loop-rest-init
loop-rest-init c = rw c.in_ok-edicts.ensures.items (edicts_start c.args.outputs c.args.body.now)

pub loop-rest-preserved : goal.loop-rest-preserved
loop-rest-preserved c =
    rw c.in_ok-push.ensures.items (edicts_go_on c.args.outputs c.loop-rest.id c.in-Some.next c.loop-rest.edicts.items c.loop-rest.rest.now _ (edicts_of c.args.outputs c.args.body.now) c.in-len4-up.len_at_least (sym c.in-Some.ensures) (omega arith) (take_rest c.loop-rest.rest.now 4) c.loop-rest.invariant)
