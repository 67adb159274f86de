-- Balances of runes that are there stay so.
use Rattle.std.proofs.Common.{◌≡◌, ◌≢◌, ◌∙◌, ℕ, zero, suc, ◌+◌, Bool, true, false, cond, List, [], ◌∷◌, ◌++◌, map, refl, sym, ap, subst, arith, Option, Some, None}
use Rattle.std.specs.Prelude.{slice_get, unwrap_or, ◌==◌, if◌then◌else◌}
use Rattle.std.specs.List.{AllByRecursion}
use Rattle.std.specs.Option.{option_map}
use Rattle.std.specs.Ordering.{eq_by_cmp}
use Rattle.std.specs.FinMap.{get, get-insert, get-remove, insert, remove}
use Rattle.std.proofs.lemmas.Option.{get_or_from_slice_get, slice_get-get_or, slice_get_within}
use Rattle.ox_block.specs.declared.block.OutPoint.{OutPoint}
use Rattle.ox_block.specs.declared.block.Tx.{Tx}
use Rattle.ox_block.specs.declared.block.TxIn.{TxIn}
use Rattle.ox_block.specs.declared.block.Txid.{Txid}
use Rattle.ox_runestone.specs.declared.stone.RuneId.{RuneId}
use Rattle.ox_rules.proofs.Orders.{outpoints_total}
use Rattle.ox_rules.specs.Outputs.{outpoint_cmp}
use Rattle.ox_allocation.specs.Balances.{AreBalances, Balance, amount_in, is_same, with_more}
use Rattle.ox_allocation.proofs.Amounts.{amount-with_more}
use Rattle.ox_allocation.proofs.Ids.{same_id}
use Rattle.ox_etching.specs.declared.row.RuneRow.{RuneRow}
use Rattle.ox_ledger.specs.Balanced.{AreKnown}
use Rattle.ox_ledger.specs.Runes.{BalanceMap, Brought, Placement, Runes, balances_at, brought_by, brought_of, joined_with, place, place_all, placements, with_balances}
use Rattle.ox_ledger.proofs.Brought.{AllRise, Rise, amount-joined_with, at_rises, was_there}
use Rattle.ox_ledger.proofs.ByIds.{found_from, found_row}
use Rattle.ox_ledger.proofs.Distinct.{get_mapped}
use Rattle.ox_ledger.proofs.Fresh.{some_mapped}

-- ---- ids that are there

abbrev pub Member : List RuneId → RuneId → Type 0
Member ids id = (at : ℕ) × (slice_get ids at ≡ Some id)

pub member_front : (ids more : List RuneId) (id : RuneId) → Member ids id → Member (ids ++ more) id
member_front [] more id member = let none : None ≡ Some id = member.1 in absurd (cc none)
member_front (one ∷ ids) more id member = by_place member.0 member.1 (λ at there. member_front ids more id (at, there)) where
  by_place : (at : ℕ) → slice_get (one ∷ ids) at ≡ Some id → ((at : ℕ) → slice_get ids at ≡ Some id → Member (ids ++ more) id) → Member (one ∷ ids ++ more) id
  by_place zero there later = (0, there)
  by_place (suc at) there later = let rest = later at there in (suc rest.0, rest.1)

pub member_last : (ids : List RuneId) (id : RuneId) → Member (ids ++ id ∷ []) id
member_last [] id = (0, refl)
member_last (one ∷ ids) id = let rest = member_last ids id in (suc rest.0, rest.1)

-- balances of runes with these ids
pub record Knows (ids : List RuneId) (balances : List Balance) : Type 0 where
  pub proper : AreBalances balances
  pub known : (id : RuneId) → amount_in balances id ≢ 0 → Member ids id

abbrev pub ids_in : List RuneRow → List RuneId
ids_in runes = map (λ row. row.id) runes

pub knows_from : (runes : List RuneRow) (balances : List Balance) → AreKnown runes balances → Knows (ids_in runes) balances
knows_from runes balances are = record {
  proper = are.proper;
  known = λ id some.
      let row = found_row runes id (are.known id some) in
      let there : slice_get runes row.1.0 ≡ Some row.0 = slice_get-get_or runes row.1.0 row.0 row.1.1 ∙ ap Some row.1.2 in
      (row.1.0, get_mapped (λ (r : RuneRow). r.id) runes row.1.0 ∙ ap (option_map (λ (r : RuneRow). r.id)) there ∙ ap Some row.2);
}

pub knows_to : (runes : List RuneRow) (balances : List Balance) → Knows (ids_in runes) balances → AreKnown runes balances
knows_to runes balances knows = record {
  proper = knows.proper;
  known = λ id some.
      let member = knows.known id some in
      let row = some_mapped (λ (r : RuneRow). r.id) (slice_get runes member.0) id (sym (get_mapped (λ (r : RuneRow). r.id) runes member.0) ∙ member.1) in
      found_from runes row.0 id (member.0, slice_get_within runes member.0 row.0 row.1, get_or_from_slice_get runes member.0 row.0 row.0 row.1) row.2;
}

-- ---- gathering

sum_some : (P : Type 0) (a b : ℕ) → a + b ≢ 0 → (a ≢ 0 → P) → (b ≢ 0 → P) → P
sum_some P zero b some first second = second (λ none. some (omega arith))
sum_some P (suc a) b some first second = first (λ none. absurd (omega arith))

nothing_to : (P : Type 0) (n : ℕ) → n ≡ 0 → n ≢ 0 → P
nothing_to P n none some = absurd (some none)

-- ids of which there is something
abbrev pub Within : List RuneId → List Balance → Type 0
Within ids balances = (id : RuneId) → amount_in balances id ≢ 0 → Member ids id

pub more_within : (ids : List RuneId) (balances : List Balance) (id : RuneId) (amount : ℕ) → Within ids balances → Member ids id → Within ids (with_more balances id amount)
more_within ids balances id amount within member q some =
    sum_some (Member ids q) (amount_in balances q) (if is_same id q then amount else 0) (λ none. some (amount-with_more balances id amount q ∙ none)) (within q)
    (by_test (is_same id q) refl) where
      by_test : (b : Bool) → is_same id q ≡ b → (if b then amount else 0) ≢ 0 → Member ids q
      by_test true is some = subst (Member ids) (same_id id q is) member
      by_test false is some = absurd (some refl)

joined_within : (ids : List RuneId) (pool balances : List Balance) → Rise balances → Within ids pool → Within ids balances → Within ids (joined_with pool balances)
joined_within ids pool balances rise first second id some =
    sum_some (Member ids id) (amount_in pool id) (amount_in balances id) (λ none. some (amount-joined_with pool balances id rise ∙ none)) (first id) (second id)

nothing_within : (ids : List RuneId) → Within ids []
nothing_within ids id some = absurd (some refl)

-- what each output holds
abbrev pub Holds : List RuneId → BalanceMap → Type 0
Holds ids bal = (at : OutPoint) (balances : List Balance) → get bal at ≡ Some balances → (balances ≢ []) × Knows ids balances

holds_rise : (ids : List RuneId) (bal : BalanceMap) → Holds ids bal → AllRise bal
holds_rise ids bal holds at balances there = (holds at balances there).1.proper.rising

at_within : (ids : List RuneId) (bal : BalanceMap) (at : OutPoint) → Holds ids bal → Within ids (balances_at bal at)
at_within ids bal at holds = by_found (get bal at) refl where
  by_found : (there : Option (List Balance)) → get bal at ≡ there → Within ids (unwrap_or there [])
  by_found None is = nothing_within ids
  by_found (Some balances) is = (holds at balances is).1.known

remove_holds : (ids : List RuneId) (bal : BalanceMap) (at : OutPoint) → Holds ids bal → Holds ids (remove bal at)
remove_holds ids bal at holds q balances is =
    holds q balances (was_there (eq_by_cmp outpoint_cmp q at) (get bal q) balances (sym (get-remove outpoints_total bal at q) ∙ is))

brought_within : (ids : List RuneId) (inputs : List TxIn) (bal : BalanceMap) (pool : List Balance) → Holds ids bal → Within ids pool → Within ids (brought_by inputs bal pool).pool
unfolding brought_by
brought_within ids [] bal pool holds within = within
brought_within ids (input ∷ inputs) bal pool holds within =
    brought_within ids inputs (remove bal input.from) (joined_with pool (balances_at bal input.from)) (remove_holds ids bal input.from holds)
    (joined_within ids pool (balances_at bal input.from) (at_rises bal input.from (holds_rise ids bal holds)) within (at_within ids bal input.from holds))

brought_holds : (ids : List RuneId) (inputs : List TxIn) (bal : BalanceMap) (pool : List Balance) → Holds ids bal → Holds ids (brought_by inputs bal pool).bal
unfolding brought_by
brought_holds ids [] bal pool holds = holds
brought_holds ids (input ∷ inputs) bal pool holds =
    brought_holds ids inputs (remove bal input.from) (joined_with pool (balances_at bal input.from)) (remove_holds ids bal input.from holds)

pub brought_of_within : (ids : List RuneId) (at : ℕ) (tx : Tx) (bal : BalanceMap) → Holds ids bal → Within ids (brought_of at tx bal).pool
brought_of_within ids at tx bal holds = by_test (at == 0) where
  by_test : (b : Bool) → let brought : Brought = if b then record { pool = []; bal = bal } else brought_by tx.inputs bal [] in Within ids brought.pool
  by_test true = nothing_within ids
  by_test false = brought_within ids tx.inputs bal [] holds (nothing_within ids)

pub brought_of_holds : (ids : List RuneId) (at : ℕ) (tx : Tx) (bal : BalanceMap) → Holds ids bal → Holds ids (brought_of at tx bal).bal
brought_of_holds ids at tx bal holds = by_test (at == 0) where
  by_test : (b : Bool) → let brought : Brought = if b then record { pool = []; bal = bal } else brought_by tx.inputs bal [] in Holds ids brought.bal
  by_test true = holds
  by_test false = brought_holds ids tx.inputs bal [] holds

-- ---- placing

some_there : {X : Type 0} (P : X → Type 0) (b : Bool) (new : X) (there : Option X) (x : X) → P new → (there ≡ Some x → P x) → cond b (Some new) there ≡ Some x → P x
some_there P true new there x first later is = let some : Some new ≡ Some x = is in let same : new ≡ x = cc some in subst P same first
some_there P false new there x first later is = later is

insert_holds : (ids : List RuneId) (bal : BalanceMap) (at : OutPoint) (one : Balance) (balances : List Balance) → Holds ids bal → Knows ids (one ∷ balances) → Holds ids (insert bal at (one ∷ balances))
insert_holds ids bal at one balances holds knows q found is =
    some_there (λ (b : List Balance). (b ≢ []) × Knows ids b) (eq_by_cmp outpoint_cmp q at) (one ∷ balances) (get bal q) found ((λ none. absurd (cc none)), knows)
    (λ there. holds q found there) (sym (get-insert outpoints_total bal at (one ∷ balances) q) ∙ is)

with_holds : (ids : List RuneId) (bal : BalanceMap) (at : OutPoint) (balances : List Balance) → Holds ids bal → Knows ids balances → Holds ids (with_balances bal at balances)
with_holds ids bal at [] holds knows = remove_holds ids bal at holds
with_holds ids bal at (one ∷ balances) holds knows = insert_holds ids bal at one balances holds knows

abbrev pub AllKnown : List RuneId → List Placement → Type 0
AllKnown ids new = AllByRecursion (λ (one : Placement). Knows ids one.1) new

pub place_all_holds : (ids : List RuneId) (state : Runes) (new : List Placement) → Holds ids state.bal → AllKnown ids new → Holds ids (place_all state new).bal
unfolding place_all
place_all_holds ids state [] holds known = holds
place_all_holds ids state (one ∷ new) holds known = place_all_holds ids (place state one) new (with_holds ids state.bal one.0 one.1 holds known.0) known.1

pub place_all_due : (state : Runes) (new : List Placement) → (place_all state new).due ≡ state.due
unfolding place_all
place_all_due state [] = refl
place_all_due state (one ∷ new) = place_all_due (place state one) new

pub known_placements : (ids : List RuneId) (txid : Txid) (index : ℕ) (given : List (List Balance)) → AllByRecursion (Knows ids) given → AllKnown ids (placements txid index given)
unfolding placements
known_placements ids txid index [] known = tt
known_placements ids txid index (balances ∷ given) known = (known.0, known_placements ids txid (index + 1) given known.1)
