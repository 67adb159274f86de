use Rattle.ox_ledger.specs.Ledger.{runes_in}
use Rattle.ox_ledger.proofs.LedgerLemmas.{made_within}
use Rattle.ox_index.proofs.audit.rune_audit.Goals as goal

pub amount_minted-requires : goal.amount_minted-requires
amount_minted-requires c = made_within (runes_in c.args.ledger.now) c.args.n c.rune-row.result.now c.args.ledger.now.balanced c.rune-row.ensures
