use Rattle.std.proofs.Common.{map}
use Rattle.ox_replies.specs.Inscriptions.{id_tree}
use Rattle.ox_query.proofs.Arrays.{all, bracketed, one_more}
use Rattle.ox_query.proofs.inscription.write_id_list.Goals as goal

pub loop-id-init : goal.loop-id-init
loop-id-init c = c.begin_array.ensures

pub loop-id-preserved : goal.loop-id-preserved
loop-id-preserved c =
    one_more id_tree c.args.ids.now c.loop-id.id-index _ c.loop-id-test.true c.loop-id.invariant c.write_id.ensures

pub returns : goal.returns
returns c =
    bracketed (map id_tree c.args.ids.now)
    (all id_tree c.args.ids.now c.loop-id.id-index c.loop-id-test.false c.loop-id.invariant) c.end_array.ensures
