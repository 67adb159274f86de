use Rattle.std.specs.FinMap.{values}
use Rattle.ox_etching.specs.declared.row.RuneRow.{RuneRow}
use Rattle.ox_ledger.specs.Balanced.{amount_held}
use Rattle.ox_ledger.specs.Ledger.{runes_in}
use Rattle.ox_index.proofs.Found.{held_there}
use Rattle.ox_index.proofs.live.LiveView.held.Goals as goal

pub returns : goal.returns
returns c =
    let ledger = runes_in c.args.self.now.parts.ledger in
    held_there (λ (row : RuneRow). amount_held (values ledger.bal) row.id) ledger.runes c.args.n c.held.result c.requires c.held.ensures
