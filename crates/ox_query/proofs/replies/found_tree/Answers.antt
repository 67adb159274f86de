use Rattle.ox_replies.specs.Ask.{tree_at}
use Rattle.ox_query.specs.Asked.{asked_of}
use Rattle.ox_query.proofs.replies.found_tree.Goals as goal

pub returns : goal.returns
returns g c =
    c.tree_or_missing.ensures
    (tree_at (asked_of (g.V.View.chain c.args.live.now) (g.V.View.index c.args.live.now) c.args.about.now) c.args.found.now.route c.args.found.now.part.now)
    c.in_ok-body_at.ensures
