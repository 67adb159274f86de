-- A rune is found by its id and by its name.
use Rattle.std.proofs.Common.{◌≡◌, ℕ, ◌<◌, ◌^◌, ◌==◌, Bool, true, false, cond, ltb, lt-ltb, eq-eqb, eqb-true, List, length, get_or, Option, Some, None, decimal, refl, ap, ◌∙◌, subst, arith}
use Rattle.std.specs.Prelude.{position, slice_get}
use Rattle.std.specs.List.{position_or_len}
use Rattle.std.specs.Option.{option_and_then, option_or}
use Rattle.std.proofs.lemmas.List.Sums.{position_or_len_is}
use Rattle.std.proofs.lemmas.Option.{get_or_from_slice_get, slice_get_within, slice_get-get_or}
use Rattle.ox_name.specs.Name.{IsName, name_of}
use Rattle.ox_name.specs.Spaced.{name_in, spaced_name}
use Rattle.ox_name.specs.declared.reading.Named.{Named}
use Rattle.ox_name.proofs.NamesAreOneToOne.{name_of-is}
use Rattle.ox_name.proofs.NamesReadBack.{all_read_back}
use Rattle.ox_runestone.specs.declared.stone.RuneId.{RuneId}
use Rattle.ox_allocation.specs.Balances.{is_same}
use Rattle.ox_allocation.proofs.Ids.{same_id, same_itself}
use Rattle.ox_etching.specs.declared.row.RuneRow.{RuneRow}
use Rattle.ox_ledger.specs.Balanced.{AreDistinct}
use Rattle.ox_model.specs.Found.{by_id, by_name}
use Rattle.ox_replies.specs.Named.{rune_id_in, rune_id_text, rune_named, without_escapes}
use Rattle.ox_replies.proofs.Escapes.{IsHigh, high_letters, high_read, high_spaced, no_colon_in}
use Rattle.ox_replies.proofs.RuneIds.{parts, rune_id_read, rune_id_written}

-- the one place at which a test passes
module _ (passes : RuneRow → Bool) (runes : List RuneRow) (n : ℕ) (row : RuneRow) (there : slice_get runes n ≡ Some row) (here : passes row ≡ true)
    (alone : (k : ℕ) (other : RuneRow) → slice_get runes k ≡ Some other → passes other ≡ true → k ≡ n) where
  within : n < length runes
  within = slice_get_within runes n row there

  fails : (k : ℕ) → k < n → passes (get_or runes k row) ≡ false
  fails k less = by (passes (get_or runes k row)) refl
    where
      by : (v : Bool) → passes (get_or runes k row) ≡ v → passes (get_or runes k row) ≡ false
      by true e =
          let same : k ≡ n = alone k (get_or runes k row) (slice_get-get_or runes k row (omega (arith, less, within))) e in
          absurd (omega (arith, same, less))
      by false e = e

  first : position_or_len passes runes ≡ n
  first = position_or_len_is passes runes n row (omega (arith, within)) fails
      (λ _. ap passes (get_or_from_slice_get runes n row row there) ∙ here)

  pub found : position passes runes ≡ Some n
  found = ap (λ i. cond (ltb i (length runes)) (Some i) None) first ∙ ap (λ v. cond v (Some n) None) (lt-ltb n (length runes) within)

pub id_found : (runes : List RuneRow) (n : ℕ) (row : RuneRow) → AreDistinct (λ r. r.id) runes → slice_get runes n ≡ Some row → by_id runes row.id ≡ Some n
id_found runes n row distinct there =
    found (λ r. is_same r.id row.id) runes n row there (same_itself row.id)
    (λ k other at same. distinct k n other row at there (same_id other.id row.id same))

pub name_found : (runes : List RuneRow) (n : ℕ) (row : RuneRow) → AreDistinct (λ r. r.name) runes → slice_get runes n ≡ Some row → by_name runes row.name ≡ Some n
name_found runes n row distinct there =
    found (λ r. r.name == row.name) runes n row there (eq-eqb row.name row.name refl)
    (λ k other at same. distinct k n other row at there (eqb-true other.name row.name same))

pub id_named : (runes : List RuneRow) (n : ℕ) (row : RuneRow) → AreDistinct (λ r. r.id) runes → slice_get runes n ≡ Some row → row.id.block < 2 ^ 64 → row.id.tx < 2 ^ 32
    → rune_named runes (rune_id_text row.id) ≡ Some n
id_named runes n row distinct there block tx =
    let other = option_and_then (λ (named : Named). by_name runes named.name) (name_in (without_escapes (rune_id_text row.id))) in
    ap (λ id. option_or (option_and_then (by_id runes) id) other) (rune_id_written row.id block tx)
    ∙ ap (λ found. option_or found other) (id_found runes n row distinct there)

-- a name is no id
no_id : (text : List ℕ) → IsHigh text → rune_id_in text ≡ None
no_id text high = by (rune_id_in text) refl
  where
    by : (id : Option RuneId) → rune_id_in text ≡ id → rune_id_in text ≡ None
    by None e = e
    by (Some id) e = absurd (no_colon_in (decimal id.block) (decimal id.tx) (subst IsHigh (rune_id_read text id e ∙ parts id) high))

pub name_named : (runes : List RuneRow) (n : ℕ) (row : RuneRow) (spacers : ℕ) → AreDistinct (λ r. r.name) runes → slice_get runes n ≡ Some row → row.name < 2 ^ 128
    → rune_named runes (spaced_name spacers (name_of row.name)) ≡ Some n
name_named runes n row spacers distinct there small =
    let text = spaced_name spacers (name_of row.name) in
    let named : IsName (name_of row.name) = name_of-is row.name small in
    let high : IsHigh text = high_spaced spacers (name_of row.name) (high_letters (name_of row.name) named.1) in
    let name = option_and_then (λ (x : Named). by_name runes x.name) (name_in (without_escapes text)) in
    ap (λ id. option_or (option_and_then (by_id runes) id) name) (no_id text high)
    ∙ ap (λ t. option_and_then (λ (x : Named). by_name runes x.name) (name_in t)) (high_read text high)
    ∙ ap (option_and_then (λ (x : Named). by_name runes x.name)) (all_read_back row.name spacers small)
    ∙ name_found runes n row distinct there
