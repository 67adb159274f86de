-- No balance of a sound index is left out.
use Rattle.std.proofs.Common.{◌≡◌, ◌≢◌, ℕ, suc, ◌<◌, Bool, true, false, cond, List, [], ◌∷◌, length, Option, Some, None, unwrap_or, refl, sym, ap, ◌∙◌, subst, arith}
use Rattle.std.specs.Prelude.{All, Contains, IsSome, slice_get}
use Rattle.std.specs.BTreeMap.{is_at}
use Rattle.std.specs.FinMap.{get}
use Rattle.std.specs.List.{cons_option, filter_map}
use Rattle.std.specs.Map.{lookup, values_of}
use Rattle.std.specs.Option.{option_and_then, option_map}
use Rattle.std.proofs.lemmas.List.Elements.{All-head, All-tail}
use Rattle.std.proofs.lemmas.Option.{slice_get_read}
use Rattle.serde_json.specs.Data.{Data}
use Rattle.ox_block.specs.declared.block.OutPoint.{OutPoint}
use Rattle.ox_sat.specs.declared.profiles.Profile.{Profile}
use Rattle.ox_runestone.specs.declared.stone.RuneId.{RuneId}
use Rattle.ox_allocation.specs.Balances.{Balance, amount_in, id_cmp}
use Rattle.ox_allocation.proofs.Rests.{first_amount}
use Rattle.ox_etching.specs.declared.row.RuneRow.{RuneRow}
use Rattle.ox_ledger.specs.Balanced.{AreDistinct}
use Rattle.ox_ledger.specs.Runes.{balances_at, by_id as row_with}
use Rattle.ox_ledger.proofs.ByIds.{found_row}
use Rattle.ox_model.specs.Found.{by_id}
use Rattle.ox_model.specs.Index.{Index}
use Rattle.ox_model.specs.Sound.{IsSound}
use Rattle.ox_replies.specs.Runes.{balance_among, balance_tree}
use Rattle.ox_replies.proofs.Runes.{id_found}

-- how many are told
abbrev pub told : List RuneRow → List Balance → ℕ
told runes balances = length (filter_map (balance_among runes) balances)

module _ (runes : List RuneRow) (distinct : AreDistinct (λ r. r.id) runes) where
  -- a balance of a rune that is there is told
  one_told : (balance : Balance) → IsSome (row_with runes balance.0) → (tree : Data) × (balance_among runes balance ≡ Some tree)
  one_told balance some =
      let found : (row : RuneRow) × Contains runes row × (row.id ≡ balance.0) = found_row runes balance.0 some in
      let row : RuneRow = found.0 in
      let n : ℕ = found.1.0 in
      let there : slice_get runes n ≡ Some row = slice_get_read runes (length runes) n row refl found.1.1 (sym found.1.2) in
      let numbered : by_id runes balance.0 ≡ Some n = subst (λ (id : RuneId). by_id runes id ≡ Some n) found.2 (id_found runes n row distinct there) in (
        balance_tree balance.1 row,
        ap (λ number. option_map (balance_tree balance.1) (option_and_then (slice_get runes) number)) numbered ∙ ap (option_map (balance_tree balance.1)) there,
      )

  -- more of a rune isn't none
  still_some : (e : Balance) (rest : List Balance) (id : RuneId) → 0 < e.1 → amount_in rest id ≢ 0 → amount_in (e ∷ rest) id ≢ 0
  still_some e rest id some more = by (is_at (id_cmp id) e.0)
    where
      by : (b : Bool) → unwrap_or (cond b (Some e.1) (lookup (is_at (id_cmp id)) rest)) 0 ≢ 0
      by true none = omega (arith, some, none)
      by false none = more none

  pub all_told : (balances : List Balance) → All (λ amount. 0 < amount) (values_of balances) → ((id : RuneId) → amount_in balances id ≢ 0 → IsSome (row_with runes id))
      → told runes balances ≡ length balances
  all_told [] some known = refl
  all_told (e ∷ rest) some known =
      let here : 0 < e.1 = All-head (λ (amount : ℕ). 0 < amount) e.1 (values_of rest) some in
      let amount : amount_in (e ∷ rest) e.0 ≡ e.1 = first_amount e rest in
      let one = one_told e (known e.0 (λ none. omega (arith, here, amount, none))) in
      ap (λ (tree : Option Data). length (cons_option tree (filter_map (balance_among runes) rest))) one.1
      ∙ ap suc (all_told rest (All-tail (λ (amount : ℕ). 0 < amount) e.1 (values_of rest) some) (λ id more. known id (still_some e rest id here more)))

pub balances_told : (p : Profile) (index : Index) (at : OutPoint) → IsSound p index → told index.runes (balances_at index.bal at) ≡ length (balances_at index.bal at)
balances_told p index at sound = by (get index.bal at) refl
  where
    by : (found : Option (List Balance)) → get index.bal at ≡ found → told index.runes (unwrap_or found []) ≡ length (unwrap_or found [])
    by None e = refl
    by (Some balances) e =
        let known = (sound.runes.balanced.held at balances e).1 in
        all_told index.runes sound.runes.balanced.ids balances known.proper.some known.known
