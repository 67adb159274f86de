use Rattle.ox_replies.specs.Sats.{sat_tree}
use Rattle.ox_query.proofs.Arrays.{first_tree}
use Rattle.ox_query.proofs.sat.sat_body.Goals as goal

pub returns : goal.returns
returns g c =
    let tree = sat_tree (g.V.View.chain c.args.live.now) (g.V.View.index c.args.live.now) c.args.sat in
    c.into_bytes.ensures tree (first_tree c.new-out.result c.write_sat.new.out tree c.new-out.ensures c.write_sat.ensures)
