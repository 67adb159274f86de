use Rattle.ox_ledger.specs.Ledger.{runes_in}
use Rattle.ox_index.proofs.Found.{id_found}
use Rattle.ox_index.proofs.live.LiveView.by_id.Goals as goal

pub returns : goal.returns
returns c = id_found (runes_in c.args.self.now.parts.ledger).runes c.args.id c.by_id.result c.by_id.ensures
