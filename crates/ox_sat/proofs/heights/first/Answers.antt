use Rattle.std.proofs.Common.{◌≡◌, ◌+◌, refl, sym, arith, mul-zero, min, ◌/◌}
use Rattle.ox_sat.proofs.Epochs.{minted_in-zero, counts, grows, within_supply, minted_in-capped, first_split, first_most}
use Rattle.ox_sat.proofs.heights.first.Goals as goal

pub loop-whole-init : goal.loop-whole-init
loop-whole-init c = rw (minted_in-zero, mul-zero) refl

pub overflow_add-minted : goal.overflow_add-minted
overflow_add-minted c =
    let known = counts c.args.p.now c.requires in
    rw (c.loop-whole.invariant, c.subsidy_in.ensures.value) (omega (arith, known.few, grows c.args.p.now c.loop-whole.whole, within_supply c.args.p.now (c.loop-whole.whole + 1) known))

pub loop-whole-preserved : goal.loop-whole-preserved
loop-whole-preserved c = rw (c.loop-whole.invariant, c.subsidy_in.ensures.value) (sym (grows c.args.p.now c.loop-whole.whole))

pub returns-clause-value : goal.returns-clause-value
returns-clause-value c =
    let end : c.loop-whole.whole ≡ min (c.args.height / c.args.p.now.halving) 33 = omega arith in
    rw (c.loop-whole.invariant, c.subsidy_in-2.ensures.value, end, minted_in-capped) (sym (first_split c.args.p.now c.args.height (counts c.args.p.now c.requires)))

pub overflow_add-result : goal.overflow_add-result
overflow_add-result c =
    let known = counts c.args.p.now c.requires in
    omega (arith, known.few, returns-clause-value c, first_most c.args.p.now c.args.height known)

pub returns-clause-within : goal.returns-clause-within
returns-clause-within c = omega (arith, returns-clause-value c, first_most c.args.p.now c.args.height (counts c.args.p.now c.requires))

pub returns-clause-small : goal.returns-clause-small
returns-clause-small c =
    let known = counts c.args.p.now c.requires in
    omega (arith, known.few, returns-clause-value c, first_most c.args.p.now c.args.height known)
