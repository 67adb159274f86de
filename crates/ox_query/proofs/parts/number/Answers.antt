use Rattle.std.proofs.Common.{ap, ◌∙◌}
use Rattle.ox_replies.specs.Texts.{number_in}
use Rattle.ox_query.proofs.Spelled.{number_is, number_unread}
use Rattle.ox_query.proofs.parts.number.Goals as goal

pub returns-in_default : goal.returns-in_default
returns-in_default c = number_unread c.args.part.now c.in_default.ensures.cases.0

pub returns : goal.returns
returns c =
    number_is _ c.read_number.result c.read_number.ensures.reads c.read_number.ensures.small c.read_number.ensures.none
    ∙ ap number_in c.in-Ok.ensures.cases.0
