use Rattle.ox_plain.proofs.TableLemmas.{put_in}
use Rattle.ox_plain.proofs.tables.put.Goals as goal

pub returns : goal.returns
returns g c = put_in c.args.table.now.entries c.insert.new.self.entries c.args.at c.args.row c.in_ok-insert.ensures.updates.0
