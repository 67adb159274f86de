use Rattle.std.specs.Option.{option_copied}
use Rattle.ox_plain.proofs.TableLemmas.{got}
use Rattle.ox_plain.proofs.tables.row_at.Goals as goal

pub returns : goal.returns
returns g c = got c.args.table.now.entries c.args.at.now (option_copied c.get.result) c.get.ensures.value
