use Rattle.ox_replies.specs.Inscriptions.{inscription_tree}
use Rattle.ox_query.proofs.Arrays.{first_tree}
use Rattle.ox_query.proofs.inscription.row_body.Goals as goal

pub returns : goal.returns
returns g c =
    let tree = inscription_tree (g.V.View.chain c.args.live.now).jubilee (g.V.View.index c.args.live.now) c.args.n c.args.row.now in
    c.into_bytes.ensures tree (first_tree c.new-out.result c.write_inscription.new.out tree c.new-out.ensures c.write_inscription.ensures)
