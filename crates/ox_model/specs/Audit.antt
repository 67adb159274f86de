-- What an audit adds up over an index.
use Rattle.std.specs.Prelude.{◌*◌, length, map}
use Rattle.ox_sat.specs.declared.profiles.Profile.{Profile}
use Rattle.ox_sat.specs.Heights.{first_at}
use Rattle.ox_rules.specs.Outputs.{sats_held}
use Rattle.ox_etching.specs.declared.row.RuneRow.{RuneRow}
use Rattle.ox_ledger.specs.Balanced.{amount_per_mint}
use Rattle.ox_model.specs.Found.{held_of}
use Rattle.ox_model.specs.Index.{Index}
use Rattle.ox_model.specs.declared.audit.Audit.{Audit}
use Rattle.ox_model.specs.declared.audit.RuneAudit.{RuneAudit}

-- where a rune is and where it came from
abbrev pub rune_audit : Index → RuneRow → RuneAudit
rune_audit index row = record {
  id = row.id;
  premine = row.premine;
  minted = row.mints * amount_per_mint row.terms;
  held = held_of index row;
  burned = row.burned;
}

abbrev pub audit_of : Profile → Index → Audit
audit_of p index = record {
  claimable = first_at p (length index.hashes);
  lost = length index.lost;
  outputs = length (sats_held index.outs);
  runes = map (rune_audit index) index.runes;
}
