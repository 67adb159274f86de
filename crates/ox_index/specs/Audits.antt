-- What an audit says of a rune, by what outputs hold.
use Rattle.std.specs.Prelude.{◌*◌}
use Rattle.std.specs.FinMap.{values}
use Rattle.ox_etching.specs.declared.row.RuneRow.{RuneRow}
use Rattle.ox_ledger.specs.Balanced.{amount_held, amount_per_mint}
use Rattle.ox_ledger.specs.Runes.{BalanceMap}
use Rattle.ox_model.specs.declared.audit.RuneAudit.{RuneAudit}

abbrev pub audit_of_rune : BalanceMap → RuneRow → RuneAudit
audit_of_rune bal row = record {
  id = row.id;
  premine = row.premine;
  minted = row.mints * amount_per_mint row.terms;
  held = amount_held (values bal) row.id;
  burned = row.burned;
}
