-- How much there is of a rune, and where, by its row alone.
use Rattle.std.specs.Prelude.{ℕ, ◌-◌, ◌*◌}
use Rattle.ox_etching.specs.declared.row.RuneRow.{RuneRow}
use Rattle.ox_ledger.specs.Balanced.{amount_per_mint, made_of}
use Rattle.ox_model.specs.declared.audit.RuneAudit.{RuneAudit}

-- what outputs hold of it: what its etching and its mints gave, less what was burned
abbrev pub held_by : RuneRow → ℕ
held_by row = made_of row - row.burned

-- where it is and where it came from
abbrev pub audit_by : RuneRow → RuneAudit
audit_by row = record {
  id = row.id;
  premine = row.premine;
  minted = row.mints * amount_per_mint row.terms;
  held = held_by row;
  burned = row.burned;
}
