use Rattle.ox_replies.specs.Status.{status_tree}
use Rattle.ox_query.specs.Asked.{asked_of}
use Rattle.ox_query.proofs.Arrays.{first_tree}
use Rattle.ox_query.proofs.status.status_body.Goals as goal

pub returns : goal.returns
returns g c =
    let tree = status_tree (asked_of (g.V.View.chain c.args.live.now) (g.V.View.index c.args.live.now) c.args.about.now) in
    c.into_bytes.ensures tree (first_tree c.new-out.result c.write_status.new.out tree c.new-out.ensures c.write_status.ensures)
