use Rattle.ox_replies.specs.Errors.{error_tree}
use Rattle.ox_query.proofs.replies.error_reply.Goals as goal

pub returns : goal.returns
returns c = c.tree_reply.ensures (error_tree c.args.status) c.in_ok-body.ensures
