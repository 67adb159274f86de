use Rattle.ox_inscribe.proofs.MapLaws.{first_put, first_stays}
use Rattle.ox_inscribe.proofs.keys.add_first.Goals as goal

pub returns-in-Some-clause-ok : goal.returns-in-Some-clause-ok
returns-in-Some-clause-ok c = first_stays c.args.ids.now c.args.id c.args.number c.in-Some.field-0.now c.in-Some.ensures

pub returns-in_ok-insert-in-None-clause-ok : goal.returns-in_ok-insert-in-None-clause-ok
returns-in_ok-insert-in-None-clause-ok c = first_put c.args.ids.now c.insert.new.self c.args.id c.args.number c.in-None.ensures c.in_ok-insert-in-None.ensures.ok
