use Rattle.ox_query.proofs.IdLists.{found_there}
use Rattle.ox_query.proofs.inscription.number_named.Goals as goal

pub returns-in-Some-clause-there : goal.returns-in-Some-clause-there
returns-in-Some-clause-there g c = found_there (g.V.View.index c.args.live.now).inscriptions c.in-Some.id c.find.result c.find.ensures
