use Rattle.std.proofs.Common.{◌<◌, refl, arith, inl, inr}
use Rattle.std.proofs.lemmas.Bool.{cases_lt}
use Rattle.ox_varint.specs.Varint.{varint}
use Rattle.ox_varint.proofs.WriteLoop.{writes_on, stays_behind, finishes, rest_below, none_left}
use Rattle.ox_varint.proofs.write_all.Goals as goal

pub loop-rest-init : goal.loop-rest-init
unfolding varint
loop-rest-init c = (omega arith, omega arith, refl, refl)

pub loop-rest-preserved : goal.loop-rest-preserved
loop-rest-preserved c =
    let room : c.loop-rest.len < 18 =
    elim (cases_lt c.loop-rest.len 18) [
      | inl lt ↦ lt
      | inr ge ↦ omega (arith, none_left c.loop-rest.rest c.loop-rest.len c.loop-rest.invariant.0 ge c.loop-rest.invariant.1)
    ] in (
      omega arith,
      rest_below c.loop-rest.rest c.loop-rest.len room c.loop-rest.invariant.1,
      writes_on (varint c.args.n) c.loop-rest.into c.loop-rest.rest c.loop-rest.len room (omega arith) (omega arith) c.loop-rest.invariant.2,
      stays_behind c.loop-rest.into c.args.into.now c.loop-rest.len _ c.loop-rest.invariant.3,
    )

pub returns-clause-length : goal.returns-clause-length
returns-clause-length c = (finishes (varint c.args.n) c.loop-rest.into c.args.into.now c.loop-rest.rest c.loop-rest.len c.loop-rest.invariant.0 (omega arith) (omega arith) c.loop-rest.invariant.2 c.loop-rest.invariant.3).1

pub returns-clause-written : goal.returns-clause-written
returns-clause-written c = (finishes (varint c.args.n) c.loop-rest.into c.args.into.now c.loop-rest.rest c.loop-rest.len c.loop-rest.invariant.0 (omega arith) (omega arith) c.loop-rest.invariant.2 c.loop-rest.invariant.3).0
