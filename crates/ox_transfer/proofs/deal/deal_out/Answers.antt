use Rattle.std.proofs.Common.{◌∙◌, ap, arith}
use Rattle.std.specs.Slice.Iter.{iter_rest}
use Rattle.std.specs.Iterator.Adapters.{rev_source}
use Rattle.ox_transfer.proofs.Deals.{backward_first, last_fits, last_within, backward_more, backward_last}
use Rattle.ox_transfer.proofs.deal.deal_out.Goals as goal

pub loop-output-init : goal.loop-output-init
loop-output-init c =
    let all = ap (λ i. iter_rest (rev_source i)) c.into_iter-output-iterator.ensures.into_iter_gives ∙ (ap iter_rest c.rev-output-items.ensures.source ∙ c.iter.ensures.rest) in
    backward_first c.args.outputs.now _ c.args.sats _ c.args.total _ all c.requires.whole c.requires.enough c.in_ok-rest.ensures.front (c.reserve.ensures.items ∙ c.clear.ensures.items)

pub overflow_sub-place : goal.overflow_sub-place
overflow_sub-place c = omega (arith, last_fits _ _ _ _ _ _ _ _ c.in-Some.output.now c.in-Some.ensures.steps c.loop-output.invariant)

pub split_off-requires-in-loop-output : goal.split_off-requires-in-loop-output
split_off-requires-in-loop-output c = last_within _ _ _ _ _ _ _ _ c.in-Some.output.now c.in-Some.ensures.steps c.loop-output.invariant

pub loop-output-preserved : goal.loop-output-preserved
loop-output-preserved c = backward_more _ _ _ _ _ _ _ _ _ _ _ c.in-Some.output.now c.in-Some.ensures.steps c.in_ok-split_off.ensures.front c.in_ok-split_off.ensures.rest c.in_ok-push.ensures.items c.loop-output.invariant

pub returns : goal.returns
returns c = backward_last _ _ _ _ _ _ _ _ c.in-None.ensures.steps.0 c.in_ok-rest.ensures.rest c.loop-output.invariant
