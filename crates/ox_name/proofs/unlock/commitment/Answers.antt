use Rattle.std.proofs.Common.{refl, ◌∙◌, arith}
use Rattle.std.proofs.lemmas.List.{length-set}
use Rattle.ox_name.specs.Unlock.{commitment_of}
use Rattle.ox_name.proofs.ReversedDigits.{stays_behind}
use Rattle.ox_name.proofs.CommitmentBytes.{writes_on, rest_below, has_room, all_written, value_in, end_in}
use Rattle.ox_name.proofs.unlock.commitment.Goals as goal

pub loop-rest-init : goal.loop-rest-init
unfolding commitment_of
loop-rest-init c = (omega arith, omega arith, refl, refl, c.told-into)

pub loop-rest-preserved : goal.loop-rest-preserved
loop-rest-preserved c =
    let room = has_room c.loop-rest.rest c.loop-rest.len c.loop-rest.invariant.0 (omega arith) c.loop-rest.invariant.1 in (
      omega (arith, room),
      rest_below c.loop-rest.rest c.loop-rest.len room c.loop-rest.invariant.1,
      writes_on (commitment_of c.args.name) c.loop-rest.into c.loop-rest.rest c.loop-rest.len room (omega (arith, room)) (omega arith) c.loop-rest.invariant.2,
      stays_behind c.loop-rest.into c.args.into.now c.loop-rest.len _ c.loop-rest.invariant.3,
      length-set c.loop-rest.into c.loop-rest.len _ ∙ c.loop-rest.invariant.4,
    )

pub returns-clause-length : goal.returns-clause-length
returns-clause-length c = (all_written (commitment_of c.args.name) c.loop-rest.into c.args.into.now c.loop-rest.rest c.loop-rest.len (omega arith) (omega arith) c.loop-rest.invariant.2 c.loop-rest.invariant.3).1

pub returns-clause-written : goal.returns-clause-written
returns-clause-written c = (all_written (commitment_of c.args.name) c.loop-rest.into c.args.into.now c.loop-rest.rest c.loop-rest.len (omega arith) (omega arith) c.loop-rest.invariant.2 c.loop-rest.invariant.3).0

pub returns-clause-value : goal.returns-clause-value
returns-clause-value c = value_in c.args.name c.loop-rest.len c.loop-rest.into _ (omega arith) (returns-clause-length c) (returns-clause-written c)

pub returns-clause-no_zero_at_end : goal.returns-clause-no_zero_at_end
returns-clause-no_zero_at_end c = end_in c.args.name c.loop-rest.len c.loop-rest.into _ (omega arith) (returns-clause-length c) (returns-clause-written c)
