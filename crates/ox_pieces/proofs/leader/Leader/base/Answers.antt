use Rattle.std.proofs.Common.{arith, refl}
use Rattle.ox_pieces.proofs.PiecesOfLeaders.{base_alike, low_depth}
use Rattle.ox_pieces.proofs.leader.Leader.base.Goals as goal

pub returns-clause-base : goal.returns-clause-base
returns-clause-base c at =
    let i = c.self.inside in
    base_alike i.head i.body i.records c.args.self.now c.as_slice.result.now c.self.invariant c.self.view_is c.as_slice.ensures

pub returns-clause-fits : goal.returns-clause-fits
returns-clause-fits c = (record { generation = omega arith; place = omega arith }, refl, low_depth c.self.inside.head c.self.invariant.lawful, rw c.as_slice.ensures c.self.invariant.body_fits)
