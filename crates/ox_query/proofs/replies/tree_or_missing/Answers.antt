use Rattle.std.proofs.Common.{sym, ◌∙◌}
use Rattle.ox_replies.specs.Ask.{error_reply}
use Rattle.ox_query.proofs.Routes.{none_replied, some_replied}
use Rattle.ox_query.proofs.replies.tree_or_missing.Goals as goal

pub returns-in-Some : goal.returns-in-Some
returns-in-Some c = λ found is.
    some_replied c.tree_reply.result c.args.close (error_reply 404 c.args.close) found c.in-Some.body (sym c.in-Some.is ∙ is) c.tree_reply.ensures

pub returns-in-None : goal.returns-in-None
returns-in-None c = λ found is.
    none_replied c.error_reply.result c.args.close (error_reply 404 c.args.close) found (sym c.in-None.is ∙ is) c.error_reply.ensures
