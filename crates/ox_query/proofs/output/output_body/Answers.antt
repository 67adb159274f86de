use Rattle.ox_replies.specs.Outputs.{output_tree}
use Rattle.ox_query.proofs.Arrays.{first_tree}
use Rattle.ox_query.proofs.output.output_body.Goals as goal

pub returns : goal.returns
returns g c =
    let tree = output_tree (g.V.View.index c.args.live.now) c.args.at.now c.args.row.now in
    c.into_bytes.ensures tree (first_tree c.new-out.result c.write_output.new.out tree c.new-out.ensures c.write_output.ensures)
