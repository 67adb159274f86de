use Rattle.ox_query.proofs.Spelled.{sat_unread}
use Rattle.ox_query.proofs.parts.satoshi.Goals as goal

pub returns-in_default-clause-exact : goal.returns-in_default-clause-exact
returns-in_default-clause-exact c = sat_unread c.args.p.now c.args.part.now c.requires.known c.in_default.ensures.cases.0
