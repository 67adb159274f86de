-- Balances stay balances.
use Rattle.std.proofs.Common.{arith, ◌≡◌, ℕ, ◌+◌, ◌^◌, ◌<◌, List, [], refl, subst, sym, Bool, true, false}
use Rattle.std.specs.Prelude.{All, if◌then◌else◌}
use Rattle.std.specs.BTreeMap.{insert_entry}
use Rattle.std.specs.Map.{values_of}
use Rattle.std.specs.List.Sorted.{IsStrictlySortedBy}
use Rattle.std.specs.Result.{OnErr, OnOk}
use Rattle.std.specs.declared.result.Result.{Result}
use Rattle.std.specs.declared.result.Result.TheVariants.{Ok, Err}
use Rattle.std.proofs.lemmas.List.Elements.{All-nil}
use Rattle.std.proofs.lemmas.Map.Views.{All-values-insert_entry}
use Rattle.ox_runestone.specs.declared.stone.RuneId.{RuneId}
use Rattle.ox_allocation.specs.Balances.{AreBalances, Balance, amount_in, id_cmp, ids_of, is_same, with_more}
use Rattle.ox_allocation.specs.Dealing.{IsPool}
use Rattle.ox_allocation.proofs.Amounts.{amount-with_more}
use Rattle.ox_allocation.proofs.Ids.{same_id}
use Rattle.ox_allocation.proofs.Sorting.{lawful-with_more}

no_ids : IsStrictlySortedBy id_cmp (ids_of [])
unfolding IsStrictlySortedBy
no_ids = tt

pub no_balances : AreBalances []
no_balances = record { rising = no_ids; some = All-nil (λ (amount : ℕ). 0 < amount) }

pub no_pool : IsPool []
no_pool = record { lawful = no_balances; small = λ id. omega arith }

small_more : (n amount : ℕ) (b : Bool) → n < 2 ^ 128 → (b ≡ true → n + amount < 2 ^ 128) → n + (if b then amount else 0) < 2 ^ 128
small_more n amount true small sum = sum refl
small_more n amount false small sum = omega arith

-- a pool with more of a rune is a pool
pub pool_more : (pool : List Balance) (id : RuneId) (amount : ℕ) → IsPool pool → amount_in pool id + amount < 2 ^ 128 → IsPool (with_more pool id amount)
pool_more pool id amount is sum = record {
  lawful = lawful-with_more pool id amount is.lawful;
  small = λ q.
      let more = amount-with_more pool id amount q in
      let here : is_same id q ≡ true → amount_in pool q + amount < 2 ^ 128 = λ same. subst (λ x. amount_in pool x + amount < 2 ^ 128) (same_id id q same) sum in
      let small = small_more (amount_in pool q) amount (is_same id q) (is.small q) here in
      omega arith;
}

-- a pool is one still, whether there was memory for more of a rune or not
pub pool_still : {A E : Type 0} (r : Result A E) (pool new : List Balance) (id : RuneId) (amount : ℕ) → IsPool pool → amount_in pool id + amount < 2 ^ 128
    → OnOk r (new ≡ with_more pool id amount) → OnErr r (new ≡ pool) → IsPool new
pool_still (Ok x) pool new id amount is sum more same = subst IsPool (sym more) (pool_more pool id amount is sum)
pool_still (Err e) pool new id amount is sum more same = subst IsPool (sym same) is

-- the amount of one rune is another
pub one_changed : (balances new : List Balance) (id : RuneId) (amount : ℕ) → 0 < amount → AreBalances balances
    → new ≡ insert_entry id_cmp balances id amount → IsStrictlySortedBy id_cmp (ids_of new) → AreBalances new
one_changed balances new id amount some are is rising = record {
  rising = rising;
  some = subst (λ (entries : List Balance). All (λ (n : ℕ). 0 < n) (values_of entries)) (sym is)
      (All-values-insert_entry id_cmp id amount (λ (n : ℕ). 0 < n) balances are.some some);
}
