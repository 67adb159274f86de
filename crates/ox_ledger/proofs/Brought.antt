-- What a transaction's inputs bring is what their outputs amount_held_in.
use Rattle.std.proofs.Common.{◌≡◌, ◌∙◌, ℕ, ◌+◌, Bool, true, false, cond, List, [], ◌∷◌, refl, sym, ap, arith, Option, Some, None}
use Rattle.std.specs.BTreeMap.{is_at}
use Rattle.std.specs.Map.{lookup}
use Rattle.std.specs.Prelude.{unwrap_or, ◌==◌, if◌then◌else◌}
use Rattle.std.specs.List.{AllByRecursion}
use Rattle.std.specs.List.Sorted.{IsStrictlySortedBy}
use Rattle.std.specs.Ordering.{eq_by_cmp, is_eq}
use Rattle.std.specs.declared.cmp.Ordering.TheVariants.{Less}
use Rattle.std.specs.FinMap.{get, get-remove, remove}
use Rattle.ox_block.specs.declared.block.OutPoint.{OutPoint}
use Rattle.ox_block.specs.declared.block.Tx.{Tx}
use Rattle.ox_block.specs.declared.block.TxIn.{TxIn}
use Rattle.ox_runestone.specs.declared.stone.RuneId.{RuneId}
use Rattle.ox_rules.proofs.Orders.{outpoints_total}
use Rattle.ox_rules.specs.Outputs.{outpoint_cmp}
use Rattle.ox_allocation.specs.Balances.{Balance, amount_in, id_cmp, ids_of, is_same, with_more}
use Rattle.ox_allocation.proofs.Amounts.{amount-with_more}
use Rattle.ox_allocation.proofs.Ids.{same_id, same_turned}
use Rattle.ox_ledger.specs.Runes.{BalanceMap, Brought, balances_at, brought_by, brought_of, joined_with}
use Rattle.ox_ledger.proofs.Held.{amount_held_in, held-remove}

-- the ids of some balances rise
abbrev pub Rise : List Balance → Type 0
Rise balances = IsStrictlySortedBy id_cmp (ids_of balances)

-- what each output holds rises
abbrev pub AllRise : BalanceMap → Type 0
AllRise bal = (at : OutPoint) (balances : List Balance) → get bal at ≡ Some balances → Rise balances

abbrev amount_found : RuneId → List Balance → Option ℕ
amount_found id balances = lookup (is_at (id_cmp id)) balances

-- a rune below others isn't among them
none_above : (id : RuneId) (balances : List Balance) → AllByRecursion (λ other. id_cmp id other ≡ Less) (ids_of balances) → amount_in balances id ≡ 0
none_above id [] below = refl
none_above id (one ∷ balances) below =
    ap (λ r. unwrap_or (cond (is_eq r) (Some one.1) (amount_found id balances)) 0) below.0 ∙ none_above id balances below.1

rest_rises : (one : Balance) (balances : List Balance) → Rise (one ∷ balances) → Rise balances
unfolding IsStrictlySortedBy
rest_rises one balances rise = rise.1

first_below : (one : Balance) (balances : List Balance) → Rise (one ∷ balances) → AllByRecursion (λ other. id_cmp one.0 other ≡ Less) (ids_of balances)
unfolding IsStrictlySortedBy
first_below one balances rise = rise.0

pub amount_first : (one : Balance) (balances : List Balance) (id : RuneId) → Rise (one ∷ balances)
    → amount_in (one ∷ balances) id ≡ (if is_same one.0 id then one.1 else 0) + amount_in balances id
amount_first one balances id rise = by_test (is_same one.0 id) refl where
  by_test : (b : Bool) → is_same one.0 id ≡ b → amount_in (one ∷ balances) id ≡ (if b then one.1 else 0) + amount_in balances id
  by_test true is =
      let here : amount_in (one ∷ balances) id ≡ one.1 =
      ap (λ (b : Bool). unwrap_or (cond b (Some one.1) (amount_found id balances)) 0) (same_turned id one.0 ∙ is) in
      let none : amount_in balances id ≡ 0 = ap (amount_in balances) (sym (same_id one.0 id is)) ∙ none_above one.0 balances (first_below one balances rise) in
      omega (arith, here, none)
  by_test false is =
      let later : amount_in (one ∷ balances) id ≡ amount_in balances id =
      ap (λ (b : Bool). unwrap_or (cond b (Some one.1) (amount_found id balances)) 0) (same_turned id one.0 ∙ is) in
      omega (arith, later)

-- balances that join others
pub amount-joined_with : (pool balances : List Balance) (id : RuneId) → Rise balances
    → amount_in (joined_with pool balances) id ≡ amount_in pool id + amount_in balances id
unfolding joined_with
amount-joined_with pool [] id rise = omega arith
amount-joined_with pool (one ∷ balances) id rise =
    let rest = amount-joined_with (with_more pool one.0 one.1) balances id (rest_rises one balances rise) in
    let first = amount-with_more pool one.0 one.1 id in
    let split = amount_first one balances id rise in
    omega (arith, rest, first, split)

none_rises : Rise []
unfolding IsStrictlySortedBy
none_rises = tt

pub at_rises : (bal : BalanceMap) (at : OutPoint) → AllRise bal → Rise (balances_at bal at)
at_rises bal at all = by_found (get bal at) refl where
  by_found : (there : Option (List Balance)) → get bal at ≡ there → Rise (unwrap_or there [])
  by_found None is = none_rises
  by_found (Some balances) is = all at balances is

pub was_there : {X : Type 0} (b : Bool) (there : Option X) (x : X) → cond b None there ≡ Some x → there ≡ Some x
was_there true there x is = let none : None ≡ Some x = is in absurd (cc none)
was_there false there x is = is

pub remove_rises : (bal : BalanceMap) (at : OutPoint) → AllRise bal → AllRise (remove bal at)
remove_rises bal at all q balances is =
    all q balances (was_there (eq_by_cmp outpoint_cmp q at) (get bal q) balances (sym (get-remove outpoints_total bal at q) ∙ is))

pub brought-by : (inputs : List TxIn) (bal : BalanceMap) (pool : List Balance) (id : RuneId) → AllRise bal
    → amount_in (brought_by inputs bal pool).pool id + amount_held_in (brought_by inputs bal pool).bal id ≡ amount_in pool id + amount_held_in bal id
unfolding brought_by
brought-by [] bal pool id all = refl
brought-by (input ∷ inputs) bal pool id all =
    let rest = brought-by inputs (remove bal input.from) (joined_with pool (balances_at bal input.from)) id (remove_rises bal input.from all) in
    let joined = amount-joined_with pool (balances_at bal input.from) id (at_rises bal input.from all) in
    let left = held-remove bal input.from id in
    omega (arith, rest, joined, left)

pub brought-of : (place : ℕ) (tx : Tx) (bal : BalanceMap) (id : RuneId) → AllRise bal
    → amount_in (brought_of place tx bal).pool id + amount_held_in (brought_of place tx bal).bal id ≡ amount_held_in bal id
brought-of place tx bal id all = by_test (place == 0) where
  by_test : (b : Bool) → let brought : Brought = if b then record { pool = []; bal = bal } else brought_by tx.inputs bal [] in
      amount_in brought.pool id + amount_held_in brought.bal id ≡ amount_held_in bal id
  by_test true = omega arith
  by_test false = let all_of = brought-by tx.inputs bal [] id all in omega (arith, all_of)
