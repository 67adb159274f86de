-- The runes of several outputs, joined.
use Rattle.std.proofs.Common.{◌≡◌, ◌≢◌, ◌∙◌, ℕ, zero, suc, List, [], ◌∷◌, length, map, refl, sym, subst, arith, Option, Some, None}
use Rattle.std.specs.Prelude.{IsSome, unwrap_or}
use Rattle.std.specs.FinMap.{get}
use Rattle.std.specs.List.{filter_map, fold}
use Rattle.ox_block.specs.declared.block.OutPoint.{OutPoint}
use Rattle.ox_sat.specs.declared.profiles.Profile.{Profile}
use Rattle.ox_runestone.specs.declared.stone.RuneId.{RuneId}
use Rattle.ox_allocation.specs.Balances.{AreBalances, Balance, amount_in, with_more}
use Rattle.ox_allocation.specs.Dealing.{with_all}
use Rattle.ox_allocation.proofs.BalanceLemmas.{no_balances}
use Rattle.ox_allocation.proofs.Dealt.{lawful-with_all}
use Rattle.ox_holders.specs.Outputs.{outputs_with}
use Rattle.ox_ledger.specs.Balanced.{amount_held}
use Rattle.ox_ledger.specs.Runes.{balances_at, by_id, joined_with}
use Rattle.ox_ledger.proofs.Fresh.{all_rise}
use Rattle.ox_ledger.proofs.Held.{amount_held-cons}
use Rattle.ox_model.specs.Index.{Index, runes_of}
use Rattle.ox_model.specs.Sound.{IsSound}
use Rattle.ox_replies.specs.Runes.{balance_among}
use Rattle.ox_replies.proofs.Balances.{all_told}
use Rattle.ox_held.specs.Held.{held_by}
use Rattle.ox_held.proofs.Fits.{amount_joined}

joined_is : (pool balances : List Balance) → joined_with pool balances ≡ with_all pool balances
unfolding joined_with with_all
joined_is pool [] = refl
joined_is pool (one ∷ balances) = joined_is (with_more pool one.0 one.1) balances

lawful_joined : (lists : List (List Balance)) (pool : List Balance) → AreBalances pool → AreBalances (fold joined_with pool lists)
lawful_joined [] pool lawful = lawful
lawful_joined (balances ∷ lists) pool lawful =
    lawful_joined lists (joined_with pool balances) (subst AreBalances (sym (joined_is pool balances)) (lawful-with_all pool balances lawful))

pub lawful_runes : (index : Index) (script : List ℕ) → AreBalances (held_by index script).runes
lawful_runes index script = lawful_joined (map (balances_at index.bal) (outputs_with script index.outs)) [] no_balances

pub summed_runes : (p : Profile) (index : Index) (script : List ℕ) (id : RuneId) → IsSound p index
    → amount_in (held_by index script).runes id ≡ amount_held (map (balances_at index.bal) (outputs_with script index.outs)) id
summed_runes p index script id sound =
    let joined = amount_joined index.bal (outputs_with script index.outs) [] id (all_rise (runes_of index) sound.runes.balanced) in
    omega (arith, joined)

-- ---- each is of a rune that is there

module _ (index : Index) (p : Profile) (sound : IsSound p index) where
  known_at : (at : OutPoint) (id : RuneId) → amount_in (balances_at index.bal at) id ≢ 0 → IsSome (by_id index.runes id)
  known_at at id some = by (get index.bal at) refl some where
    by : (found : Option (List Balance)) → get index.bal at ≡ found → amount_in (unwrap_or found []) id ≢ 0 → IsSome (by_id index.runes id)
    by None is some = absurd (some refl)
    by (Some balances) is some = (sound.runes.balanced.held at balances is).1.known id some

  known_among : (places : List OutPoint) (id : RuneId) → amount_held (map (balances_at index.bal) places) id ≢ 0 → IsSome (by_id index.runes id)
  known_among [] id some = absurd (some refl)
  known_among (at ∷ places) id some = by (amount_in (balances_at index.bal at) id) refl (λ more. known_among places id more) where
    by : (here : ℕ) → amount_in (balances_at index.bal at) id ≡ here
        → (amount_held (map (balances_at index.bal) places) id ≢ 0 → IsSome (by_id index.runes id)) → IsSome (by_id index.runes id)
    by zero none rest =
        rest (λ more. some (let sums = amount_held-cons (balances_at index.bal at) (map (balances_at index.bal) places) id in omega (arith, sums, none, more)))
    by (suc n) is rest = known_at at id (λ none. absurd (omega (arith, is, none)))

  pub told_runes : (script : List ℕ) → length (filter_map (balance_among index.runes) (held_by index script).runes) ≡ length (held_by index script).runes
  told_runes script =
      all_told index.runes sound.runes.balanced.ids (held_by index script).runes (lawful_runes index script).some
      (λ id some. known_among (outputs_with script index.outs) id (λ none. some (summed_runes p index script id sound ∙ none)))
