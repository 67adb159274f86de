use Rattle.std.proofs.Common.{mul-zero, zero-add, lit<}
use Rattle.ox_sat.proofs.Epochs.{minted_in-zero, counts, epoch_more, mints_from, minting_is}
use Rattle.ox_sat.proofs.heights.height_of.Goals as goal

pub loop-rest-init : goal.loop-rest-init
loop-rest-init c = record { mints = lit< tt; split = rw (minted_in-zero, mul-zero) (zero-add _) }

pub loop-rest-preserved : goal.loop-rest-preserved
loop-rest-preserved c =
    let next = epoch_more c.args.p.now c.loop-rest.epoch c.loop-rest.rest c.args.sat c.subsidy_in-in-loop-rest.result (counts c.args.p.now c.requires.known) c.subsidy_in-in-loop-rest.ensures.value c.loop-rest.invariant.split c.requires.minted (rw c.subsidy_in-in-loop-rest.ensures.value (rw c.subsidy_in.ensures.value at c.loop-rest-test.true)) in
    record { mints = next.0; split = next.1 }

pub returns-clause-holds : goal.returns-clause-holds
returns-clause-holds c = mints_from c.args.p.now c.loop-rest.epoch c.loop-rest.rest c.args.sat c.subsidy_in-2.result c.subsidy_in-2.ensures.value c.loop-rest.invariant.split (rw (c.subsidy_in-2.ensures.value) (rw (c.subsidy_in.ensures.value) at c.loop-rest-test.false))

pub returns-clause-value : goal.returns-clause-value
returns-clause-value c = minting_is c.args.p.now c.args.sat _ (counts c.args.p.now c.requires.known) (returns-clause-holds c)
