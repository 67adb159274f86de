-- What an audit says of an index whose satoshis are counted and whose runes are told one by one.
use Rattle.std.proofs.Common.{◌≡◌, ◌∙◌, ◌≤◌, ◌<◌, ◌+◌, ◌-◌, ℕ, List, [], ◌∷◌, ◌++◌, length, drop, get_or, append_assoc, refl, sym, ap, arith, Option, Some, None}
use Rattle.std.specs.Option.{IfSome}
use Rattle.std.specs.Prelude.{map, slice_get}
use Rattle.std.proofs.lemmas.List.{append-nil, drop_all, drop_more}
use Rattle.std.proofs.lemmas.Option.{get_or_from_slice_get, slice_get-get_or, slice_get_within}
use Rattle.ox_sat.specs.declared.profiles.Profile.{Profile}
use Rattle.ox_sat.specs.Heights.{first_at}
use Rattle.ox_rules.specs.Outputs.{sats_held}
use Rattle.ox_etching.specs.declared.row.RuneRow.{RuneRow}
use Rattle.ox_ledger.specs.Block.{first_rune}
use Rattle.ox_model.specs.Audit.{audit_of, rune_audit}
use Rattle.ox_model.specs.Index.{Index}
use Rattle.ox_model.specs.Sound.{IsSound}
use Rattle.ox_model.specs.declared.audit.RuneAudit.{RuneAudit}
use Rattle.ox_model.proofs.Audits.{satoshis_balance}

module _ (told : RuneRow → RuneAudit) (runes : List RuneRow) (n : ℕ) (done : List RuneAudit) (so_far : done ++ map told (drop n runes) ≡ map told runes) where
  with_one : (row : RuneRow) (next : RuneAudit) → slice_get runes n ≡ Some row → next ≡ told row → (done ++ next ∷ []) ++ map told (drop (n + 1) runes) ≡ map told runes
  with_one row next there is =
      let at : get_or runes n row ≡ row = get_or_from_slice_get runes n row row there in
      let rest : drop n runes ≡ row ∷ drop (n + 1) runes = drop_more runes n row (slice_get_within runes n row there) ∙ ap (λ (r : RuneRow). r ∷ drop (n + 1) runes) at in
      append_assoc done (next ∷ []) (map told (drop (n + 1) runes))
      ∙ ap (λ (audit : RuneAudit). done ++ audit ∷ map told (drop (n + 1) runes)) is
      ∙ ap (λ (l : List RuneRow). done ++ map told l) (sym rest)
      ∙ so_far

  pub one_more : (next : RuneAudit) → n < length runes → IfSome (slice_get runes n) (λ row. next ≡ told row) → (done ++ next ∷ []) ++ map told (drop (n + 1) runes) ≡ map told runes
  one_more next less is = by_row (slice_get runes n) refl is where
    by_row : (o : Option RuneRow) → slice_get runes n ≡ o → IfSome o (λ row. next ≡ told row) → (done ++ next ∷ []) ++ map told (drop (n + 1) runes) ≡ map told runes
    by_row (Some row) there is = with_one row next there is
    by_row None there is = let some = slice_get-get_or runes n first_rune less in absurd (cc (sym there ∙ some))

  pub all_done : length runes ≤ n → done ≡ map told runes
  all_done past = sym (append-nil done) ∙ ap (λ (l : List RuneRow). done ++ map told l) (sym (drop_all n runes past)) ∙ so_far

-- what is counted but for what is lost
part_within : (all lost left claimable counted : ℕ) → all ≡ lost + left → claimable ≡ all → counted ≡ lost → counted ≤ claimable
part_within all lost left claimable counted sum is some = omega arith

part_left : (all lost left claimable counted : ℕ) → all ≡ lost + left → claimable ≡ all → counted ≡ lost → claimable - counted ≡ left
part_left all lost left claimable counted sum is some = omega arith

module _ (p : Profile) (index : Index) (sound : IsSound p index) (claimable lost : ℕ) (all : claimable ≡ first_at p (length index.hashes)) (some : lost ≡ length index.lost) where
  pub lost_within : lost ≤ claimable
  lost_within = part_within (first_at p (length index.hashes)) (length index.lost) (length (sats_held index.outs)) claimable lost (satoshis_balance p index sound) all some

  -- outputs hold what isn't lost
  others : claimable - lost ≡ length (sats_held index.outs)
  others = part_left (first_at p (length index.hashes)) (length index.lost) (length (sats_held index.outs)) claimable lost (satoshis_balance p index sound) all some

  pub adds_up : (runes : List RuneAudit) → runes ≡ map (rune_audit index) index.runes
      → record { claimable = claimable; lost = lost; outputs = claimable - lost; runes = runes } ≡ audit_of p index
  adds_up runes are = λ i. record { claimable = all i; lost = some i; outputs = others i; runes = are i }
