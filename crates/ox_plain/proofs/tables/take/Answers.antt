use Rattle.ox_plain.proofs.TableLemmas.{taken_out}
use Rattle.ox_plain.proofs.tables.take.Goals as goal

pub returns : goal.returns
returns g c = taken_out c.args.table.now.entries c.remove.new.self.entries c.args.at.now c.remove.ensures.updates.0
