-- Runes and balances, one by one.
use Rattle.std.proofs.Common.{◌≡◌, ℕ, ◌<◌, ◌≤◌, Bool, ltb, ltb-true, List, length, Option, Some, None, IfSome, refl, sym, subst}
use Rattle.std.specs.Prelude.{position, slice_get}
use Rattle.std.specs.List.{position_or_len}
use Rattle.std.specs.Option.{option_and_then, option_or}
use Rattle.std.proofs.lemmas.Option.{get_or_from_slice_get, slice_get_within}
use Rattle.ox_name.specs.Spaced.{name_in}
use Rattle.ox_name.specs.declared.reading.Named.{Named}
use Rattle.ox_runestone.specs.declared.stone.RuneId.{RuneId}
use Rattle.ox_etching.specs.declared.row.RuneRow.{RuneRow}
use Rattle.ox_ledger.specs.Balanced.{IsBounded}
use Rattle.ox_allocation.specs.Balances.{Balance, is_same}
use Rattle.ox_model.specs.Found.{by_id, by_name}
use Rattle.ox_model.specs.Index.{Index}
use Rattle.ox_model.specs.Sound.{IsSound}
use Rattle.ox_sat.specs.declared.profiles.Profile.{Profile}
use Rattle.ox_replies.specs.Named.{rune_id_in, rune_named, without_escapes}
use Rattle.ox_query.proofs.Spelled.{test_passed}

abbrev pub no_amount : Balance
no_amount = (record { block = 0; tx = 0 }, 0)

-- what is found is there
position_within : {A : Type 0} (passes : A → Bool) (rows : List A) (n : ℕ) → position passes rows ≡ Some n → n < length rows
position_within passes rows n e =
    let is = test_passed (ltb (position_or_len passes rows) (length rows)) (position_or_len passes rows) n e in
    subst (λ k. k < length rows) is.1 (ltb-true (position_or_len passes rows) (length rows) is.0)

pub by_id_within : (runes : List RuneRow) (id : RuneId) (n : ℕ) → by_id runes id ≡ Some n → n < length runes
by_id_within runes id n e = position_within (λ row. is_same row.id id) runes n e

module _ (runes : List RuneRow) where
  abbrev Within : Option ℕ → Type 0
  Within found = IfSome found (λ n. n < length runes)

  found_within : (found : Option ℕ) → ((n : ℕ) → found ≡ Some n → n < length runes) → Within found
  found_within None h = tt
  found_within (Some n) h = h n refl

  chosen_within : {X : Type 0} (f : X → Option ℕ) (o : Option X) → ((x : X) → Within (f x)) → Within (option_and_then f o)
  chosen_within f None h = tt
  chosen_within f (Some x) h = h x

  either_within : (a b : Option ℕ) → Within a → Within b → Within (option_or a b)
  either_within None b h k = k
  either_within (Some n) b h k = h

  some_within : (found : Option ℕ) (n : ℕ) → Within found → Some n ≡ found → n < length runes
  some_within found n h e = subst Within (sym e) h

  pub named_within : (text : List ℕ) (n : ℕ) → Some n ≡ rune_named runes text → n < length runes
  named_within text n e =
      some_within (rune_named runes text) n
      (either_within _ _
      (chosen_within (by_id runes) (rune_id_in text) (λ id. found_within (by_id runes id) (by_id_within runes id)))
      (chosen_within (λ (named : Named). by_name runes named.name) (name_in (without_escapes text))
      (λ named. found_within (by_name runes named.name) (position_within _ runes)))) e

-- the decimals of each rune of a sound index are few enough
pub few_decimals : (p : Profile) (index : Index) (n : ℕ) (row : RuneRow) → IsSound p index → slice_get index.runes n ≡ Some row → row.divisibility ≤ 38
few_decimals p index n row sound there =
    let bounded : IsBounded row =
    subst IsBounded (get_or_from_slice_get index.runes n row row there) (sound.runes.balanced.bounded n row (slice_get_within index.runes n row there)) in
    bounded.divisibility
