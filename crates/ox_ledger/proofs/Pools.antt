-- What is gathered of balances is balances.
use Rattle.std.proofs.Common.{◌≡◌, ◌∙◌, ℕ, zero, suc, ◌+◌, ◌<◌, Bool, true, false, List, [], ◌∷◌, refl, ap, arith, Option, Some, None}
use Rattle.std.specs.Prelude.{◌==◌, if◌then◌else◌}
use Rattle.std.specs.BTreeMap.{insert_entry}
use Rattle.std.specs.List.{AllByRecursion}
use Rattle.std.specs.List.Sorted.{IsStrictlySortedBy}
use Rattle.std.specs.Ordering.{match_ordering, ordering_reverse}
use Rattle.std.specs.declared.cmp.Ordering.TheVariants.{Less, Equal, Greater}
use Rattle.std.specs.FinMap.{remove}
use Rattle.ox_block.specs.declared.block.Tx.{Tx}
use Rattle.ox_block.specs.declared.block.TxIn.{TxIn}
use Rattle.ox_runestone.specs.declared.stone.RuneId.{RuneId}
use Rattle.ox_allocation.specs.Balances.{AreBalances, Balance, amount_in, id_cmp, ids_of, with_more}
use Rattle.ox_allocation.proofs.BalanceLemmas.{no_balances, one_changed}
use Rattle.ox_allocation.proofs.Ids.{ids_total}
use Rattle.ox_ledger.specs.Runes.{BalanceMap, Brought, balances_at, brought_by, brought_of, joined_with, pool_with}
use Rattle.ox_ledger.proofs.Brought.{Rise}

abbrev Below : RuneId → List Balance → Type 0
Below id balances = AllByRecursion (λ other. id_cmp id other ≡ Less) (ids_of balances)

below_inserted : (id k : RuneId) (v : ℕ) → id_cmp id k ≡ Less → (balances : List Balance) → Below id balances → Below id (insert_entry id_cmp balances k v)
below_inserted id k v below [] all = (below, tt)
below_inserted id k v below (one ∷ balances) all =
    elim (id_cmp k one.0) as (λ r. Below id (match_ordering r ((k, v) ∷ one ∷ balances) ((one.0, v) ∷ balances) (one ∷ insert_entry id_cmp balances k v))) [
      | Less ↦ (below, all)
      | Equal ↦ all
      | Greater ↦ (all.0, below_inserted id k v below balances all.1)
    ]

below_all : (id other : RuneId) → id_cmp id other ≡ Less → (balances : List Balance) → Below other balances → Below id balances
below_all id other below [] all = tt
below_all id other below (one ∷ balances) all = (ids_total.trans id other one.0 below all.0, below_all id other below balances all.1)

inserted_rise : (balances : List Balance) (k : RuneId) (v : ℕ) → Rise balances → Rise (insert_entry id_cmp balances k v)
unfolding IsStrictlySortedBy
inserted_rise [] k v rise = (tt, tt)
inserted_rise (one ∷ balances) k v rise =
    elim (id_cmp k one.0) as (λ r. id_cmp k one.0 ≡ r → Rise (match_ordering r ((k, v) ∷ one ∷ balances) ((one.0, v) ∷ balances) (one ∷ insert_entry id_cmp balances k v))) [
      | Less ↦ λ is. ((is, below_all k one.0 is balances rise.0), rise)
      | Equal ↦ λ is. rise
      | Greater ↦ λ is. (below_inserted one.0 k v (ids_total.antisymm one.0 k ∙ ap ordering_reverse is) balances rise.0, inserted_rise balances k v rise.1)
    ] refl

positive : (n amount : ℕ) → (amount == 0) ≡ false → 0 < n + amount
positive n zero is = let no : true ≡ false = is in absurd (cc no)
positive n (suc amount) is = omega arith

-- so much more of a rune
pub more_balances : (balances : List Balance) (id : RuneId) (amount : ℕ) → AreBalances balances → AreBalances (with_more balances id amount)
more_balances balances id amount are = by_test (amount == 0) refl where
  by_test : (b : Bool) → (amount == 0) ≡ b → AreBalances (if b then balances else insert_entry id_cmp balances id (amount_in balances id + amount))
  by_test true is = are
  by_test false is =
      one_changed balances (insert_entry id_cmp balances id (amount_in balances id + amount)) id (amount_in balances id + amount)
      (positive (amount_in balances id) amount is) are refl (inserted_rise balances id (amount_in balances id + amount) are.rising)

pub joined_balances : (pool balances : List Balance) → AreBalances pool → AreBalances (joined_with pool balances)
unfolding joined_with
joined_balances pool [] are = are
joined_balances pool (one ∷ balances) are = joined_balances (with_more pool one.0 one.1) balances (more_balances pool one.0 one.1 are)

pub brought_balances_by : (inputs : List TxIn) (bal : BalanceMap) (pool : List Balance) → AreBalances pool → AreBalances (brought_by inputs bal pool).pool
unfolding brought_by
brought_balances_by [] bal pool are = are
brought_balances_by (input ∷ inputs) bal pool are =
    brought_balances_by inputs (remove bal input.from) (joined_with pool (balances_at bal input.from)) (joined_balances pool (balances_at bal input.from) are)

pub brought_balances : (place : ℕ) (tx : Tx) (bal : BalanceMap) → AreBalances (brought_of place tx bal).pool
brought_balances place tx bal = by_test (place == 0) where
  by_test : (b : Bool) → let brought : Brought = if b then record { pool = []; bal = bal } else brought_by tx.inputs bal [] in AreBalances brought.pool
  by_test true = no_balances
  by_test false = brought_balances_by tx.inputs bal [] no_balances

pub pool_balances : (pool : List Balance) (one : Option Balance) → AreBalances pool → AreBalances (pool_with pool one)
pool_balances pool None are = are
pool_balances pool (Some one) are = more_balances pool one.0 one.1 are
