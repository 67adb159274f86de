use Rattle.std.proofs.Common.{map}
use Rattle.ox_held.specs.Trees.{outpoint_tree}
use Rattle.ox_query.proofs.Arrays.{all, bracketed, one_more}
use Rattle.ox_query.proofs.address.write_outpoints.Goals as goal

pub loop-at-init : goal.loop-at-init
loop-at-init c = c.begin_array.ensures

pub loop-at-preserved : goal.loop-at-preserved
loop-at-preserved c =
    one_more outpoint_tree c.args.places.now c.loop-at.at-index _ c.loop-at-test.true c.loop-at.invariant c.write_outpoint.ensures

pub returns : goal.returns
returns c =
    bracketed (map outpoint_tree c.args.places.now)
    (all outpoint_tree c.args.places.now c.loop-at.at-index c.loop-at-test.false c.loop-at.invariant) c.end_array.ensures
