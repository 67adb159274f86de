-- How much there is of a rune of a sound index.
use Rattle.std.proofs.Common.{◌≡◌, ◌∙◌, ◌<◌, ◌≤◌, ◌^◌, ◌+◌, ℕ, [], refl, sym, ap, arith, Some, option_map, slice_get}
use Rattle.ox_sat.specs.declared.profiles.Profile.{Profile}
use Rattle.ox_etching.specs.declared.row.RuneRow.{RuneRow}
use Rattle.ox_ledger.specs.Balanced.{made_of}
use Rattle.ox_ledger.proofs.LedgerLemmas.{made_within, parts_of}
use Rattle.ox_ledger.proofs.TablesLemmas.{owed}
use Rattle.ox_model.specs.Audit.{rune_audit}
use Rattle.ox_model.specs.Found.{held_of}
use Rattle.ox_model.specs.Index.{Index, runes_of}
use Rattle.ox_model.specs.Sound.{IsSound}
use Rattle.ox_model.specs.declared.audit.RuneAudit.{RuneAudit}
use Rattle.ox_asof.specs.Amounts.{audit_by, held_by}

module _ (p : Profile) (index : Index) (sound : IsSound p index) (n : ℕ) (row : RuneRow) (there : slice_get index.runes n ≡ Some row) where
  pub made_fits : made_of row < 2 ^ 128
  made_fits = made_within (runes_of index) n row sound.runes.balanced there

  parts : held_of index row + row.burned ≡ made_of row
  parts =
      let all = parts_of (runes_of index) n row sound.runes.balanced there in
      let none : owed [] row.id ≡ 0 = refl in
      omega (arith, all, none)

  pub burned_within : row.burned ≤ made_of row
  burned_within = omega (arith, parts)

  held_is : held_by row ≡ held_of index row
  held_is = omega (arith, parts)

  pub held_told : (held : ℕ) → held ≡ held_by row → option_map (held_of index) (slice_get index.runes n) ≡ Some held
  held_told held is = ap (option_map (held_of index)) there ∙ ap (λ (h : ℕ). Some h) (sym held_is ∙ sym is)

  pub audit_told : (audit : RuneAudit) → audit ≡ audit_by row → audit ≡ rune_audit index row
  audit_told audit is = is ∙ ap (λ (h : ℕ). record (rune_audit index row) { held = h }) held_is
