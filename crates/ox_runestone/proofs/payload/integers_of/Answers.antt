use Rattle.std.proofs.Common.{sym}
use Rattle.std.proofs.lemmas.Bool.{eqb-true, eqb-false}
use Rattle.ox_runestone.specs.Payload.{integers_of}
use Rattle.ox_runestone.proofs.PayloadLoops.{before-nil, reads_more, reads_fault, reads_all}
use Rattle.ox_runestone.proofs.payload.integers_of.Goals as goal

pub loop-rest-init : goal.loop-rest-init
loop-rest-init c = rw c.in_ok-integers.ensures.items (before-nil (integers_of c.args.payload.now))

pub returns-in_default : goal.returns-in_default
returns-in_default c = reads_fault c.args.payload.now c.loop-rest.integers.items c.loop-rest.rest.now c.in_default.field-0 (eqb-false _ _ (sym c.loop-rest-test.ensures)) c.in_default.ensures.exact c.loop-rest.invariant

pub loop-rest-preserved : goal.loop-rest-preserved
loop-rest-preserved c =
    rw (c.in_ok-push.ensures.items, c.split_at.ensures.back) (reads_more c.args.payload.now c.loop-rest.integers.items c.loop-rest.rest.now c.in-Ok.integer c.in-Ok.len (eqb-false _ _ (sym c.loop-rest-test.ensures)) c.in-Ok.ensures.length.0 c.in-Ok.ensures.exact c.loop-rest.invariant)

pub returns : goal.returns
returns c = reads_all c.args.payload.now c.loop-rest.integers.items c.loop-rest.rest.now (eqb-true _ _ (sym c.loop-rest-test.ensures)) c.loop-rest.invariant
