use Rattle.ox_query.proofs.IdLists.{all_ids, one_id_more}
use Rattle.ox_query.proofs.Steps.{nothing}
use Rattle.ox_query.proofs.ids.write_ids.Goals as goal

pub loop-n-init : goal.loop-n-init
loop-n-init g c = nothing c.args.out.now

pub loop-n-preserved : goal.loop-n-preserved
loop-n-preserved g c =
    one_id_more (g.V.View.index c.args.live.now).inscriptions c.args.numbers.now c.loop-n.n-index c.inscription.result.now
    c.loop-n-test.true c.inscription.ensures c.loop-n.invariant c.write_id.ensures

pub returns : goal.returns
returns g c = all_ids (g.V.View.index c.args.live.now).inscriptions c.args.numbers.now c.loop-n.n-index c.loop-n-test.false c.loop-n.invariant
