use Rattle.ox_ledger.specs.Ledger.{runes_in}
use Rattle.ox_index.proofs.Found.{name_found}
use Rattle.ox_index.proofs.live.LiveView.by_name.Goals as goal

pub returns : goal.returns
returns c = name_found (runes_in c.args.self.now.parts.ledger).runes c.args.name c.by_name.result c.by_name.ensures
