-- In a balanced state each step of a transaction can be done: no sum overflows.
use Rattle.std.proofs.Common.{◌≡◌, ◌≢◌, ◌∙◌, ℕ, zero, suc, ◌+◌, ◌*◌, ◌^◌, ◌<◌, ◌≤◌, Bool, true, false, true≢false, cond, List, [], ◌∷◌, ◌++◌, map, refl, sym, ap, subst, arith, Option, Some, None}
use Rattle.std.specs.Prelude.{All, ◌==◌, option_and_then, unwrap_or, slice_get, slice_index_or, if◌then◌else◌}
use Rattle.std.specs.List.{AllByRecursion}
use Rattle.std.specs.Option.{option_map}
use Rattle.std.specs.Ordering.{eq_by_cmp}
use Rattle.std.specs.FinMap.{get, get-insert, get-remove, remove}
use Rattle.std.proofs.lemmas.List.Elements.{All-from_recursion, All-weaker, recursion_from_All}
use Rattle.std.proofs.lemmas.Nat.{mul-le}
use Rattle.ox_block.specs.declared.block.OutPoint.{OutPoint}
use Rattle.ox_block.specs.declared.block.Tx.{Tx}
use Rattle.ox_block.specs.declared.block.TxIn.{TxIn}
use Rattle.ox_block.specs.declared.block.TxOut.{TxOut}
use Rattle.ox_block.specs.declared.block.Txid.{Txid}
use Rattle.ox_runestone.specs.declared.stone.Artifact.{Artifact}
use Rattle.ox_runestone.specs.declared.stone.Artifact.TheVariants.{Stone, Cenotaph}
use Rattle.ox_runestone.specs.declared.stone.RuneId.{RuneId}
use Rattle.ox_rules.proofs.Orders.{outpoints_total}
use Rattle.ox_rules.specs.Outputs.{outpoint_cmp}
use Rattle.ox_rules.specs.Transfer.{as_list}
use Rattle.ox_rules.specs.declared.rows.OutRow.{OutRow}
use Rattle.ox_allocation.specs.Allocation.{Allocation, amount_burned, gifts_from}
use Rattle.ox_allocation.specs.Balances.{AreBalances, Balance, amount_in, ids_of, is_same}
use Rattle.ox_allocation.specs.Laws.{NothingIsLostOrMade}
use Rattle.ox_allocation.proofs.Amounts.{zero_from}
use Rattle.ox_allocation.proofs.BalanceLemmas.{no_balances}
use Rattle.ox_allocation.proofs.Ids.{same_itself}
use Rattle.ox_allocation.proofs.Sorting.{lawful-balances_by}
use Rattle.ox_etching.specs.declared.spot.Spot.{Spot}
use Rattle.ox_etching.specs.Etched.{id_of}
use Rattle.ox_etching.specs.Minted.{minted}
use Rattle.ox_etching.specs.declared.row.RuneRow.{RuneRow}
use Rattle.ox_ledger.specs.Balanced.{Balanced, IsBounded, IsSettled, amount_per_mint, amount_there, cap_in, made_of}
use Rattle.ox_ledger.specs.Runes.{BalanceMap, Brought, InHand, Placement, Runes, artifact_at, balances_at, brought_by, brought_of, burn, burn_of, by_id, dealt_by, etching_by, gathered_by, mint_at, mint_by, mint_of, place, place_all, placements, pool_with, premine_of, settled_by, turn, with_balances}
use Rattle.ox_ledger.specs.Shown.{IsAbsent}
use Rattle.ox_ledger.specs.Steps.{CanBurn, CanMint, CanPlaceAll, CanSettle, CanTakeUp, CanTurn}
use Rattle.ox_ledger.specs.Turn.{IsFree, mints_in}
use Rattle.ox_ledger.proofs.Bounded.{new_bounded}
use Rattle.ox_ledger.proofs.Brought.{brought-of, was_there}
use Rattle.ox_ledger.proofs.ByIds.{found_row}
use Rattle.ox_ledger.proofs.BurnLemmas.{at_place}
use Rattle.ox_ledger.proofs.Distinct.{NoneLike}
use Rattle.ox_ledger.proofs.Fresh.{IsFreeFor, IsRow, all_fresh, all_rise, etching_row, free_for, none_held, some_mapped, some_then}
use Rattle.ox_ledger.proofs.Held.{amount_held_in}
use Rattle.ox_ledger.proofs.NewNames.{new_name}
use Rattle.ox_ledger.proofs.Pools.{brought_balances, pool_balances}
use Rattle.ox_ledger.proofs.Settled.{Pays, Stands, all_pay, stands}
use Rattle.ox_ledger.proofs.StaysBalanced.{dealt_lawful, stays_balanced}
use Rattle.ox_ledger.proofs.TurnLemmas.{AllFresh, IsFresh, amount-pool_with}

-- ---- burned amounts that stay small

abbrev pub IsSmall : RuneRow → Type 0
IsSmall row = row.burned < 2 ^ 128

unmapped : (P : RuneRow → Type 0) (f : RuneRow → RuneRow) (runes : List RuneRow) → AllByRecursion P (map f runes) → AllByRecursion (λ row. P (f row)) runes
unmapped P f [] all = tt
unmapped P f (row ∷ runes) all = (all.0, unmapped P f runes all.1)

can_burn : (balances : List Balance) (runes : List RuneRow) → All IsSmall (burn balances runes) → All (CanBurn balances) runes
can_burn balances runes small =
    All-from_recursion (CanBurn balances) runes (unmapped IsSmall (burn_of balances) runes (recursion_from_All IsSmall (burn balances runes) small))

small_before : (balances : List Balance) (runes : List RuneRow) → All IsSmall (burn balances runes) → All IsSmall runes
small_before balances runes small = All-weaker (CanBurn balances) IsSmall (λ row can. omega (arith, can)) runes (can_burn balances runes small)

small_first : (state : Runes) (new : List Placement) → All IsSmall (place_all state new).runes → All IsSmall state.runes
unfolding place_all
small_first state [] small = small
small_first state (one ∷ new) small = small_before (balances_at state.bal one.0) state.runes (small_first (place state one) new small)

-- ---- outputs that hold balances

abbrev pub AreProper : BalanceMap → Type 0
AreProper bal = (at : OutPoint) (balances : List Balance) → get bal at ≡ Some balances → AreBalances balances

at_proper : (bal : BalanceMap) (at : OutPoint) → AreProper bal → AreBalances (balances_at bal at)
at_proper bal at proper = by_found (get bal at) refl where
  by_found : (there : Option (List Balance)) → get bal at ≡ there → AreBalances (unwrap_or there [])
  by_found None is = no_balances
  by_found (Some balances) is = proper at balances is

remove_proper : (bal : BalanceMap) (at : OutPoint) → AreProper bal → AreProper (remove bal at)
remove_proper bal at proper q balances is =
    proper q balances (was_there (eq_by_cmp outpoint_cmp q at) (get bal q) balances (sym (get-remove outpoints_total bal at q) ∙ is))

either_there : (b : Bool) (new found : List Balance) (there : Option (List Balance)) → AreBalances new → (there ≡ Some found → AreBalances found) → cond b (Some new) there ≡ Some found → AreBalances found
either_there true new found there are later is = let some : Some new ≡ Some found = is in let same : new ≡ found = cc some in subst AreBalances same are
either_there false new found there are later is = later is

with_proper : (bal : BalanceMap) (at : OutPoint) (balances : List Balance) → AreProper bal → AreBalances balances → AreProper (with_balances bal at balances)
with_proper bal at [] proper are = remove_proper bal at proper
with_proper bal at (one ∷ balances) proper are = λ q found is.
    either_there (eq_by_cmp outpoint_cmp q at) (one ∷ balances) found (get bal q) are (proper q found) (sym (get-insert outpoints_total bal at (one ∷ balances) q) ∙ is)

brought_proper : (inputs : List TxIn) (bal : BalanceMap) (pool : List Balance) → AreProper bal → AreProper (brought_by inputs bal pool).bal
unfolding brought_by
brought_proper [] bal pool proper = proper
brought_proper (input ∷ inputs) bal pool proper = brought_proper inputs (remove bal input.from) _ (remove_proper bal input.from proper)

brought_of_proper : (at : ℕ) (tx : Tx) (bal : BalanceMap) → AreProper bal → AreProper (brought_of at tx bal).bal
brought_of_proper at tx bal proper = by_test (at == 0) where
  by_test : (b : Bool) → let brought : Brought = if b then record { pool = []; bal = bal } else brought_by tx.inputs bal [] in AreProper brought.bal
  by_test true = proper
  by_test false = brought_proper tx.inputs bal [] proper

abbrev pub AllProper : List Placement → Type 0
AllProper new = AllByRecursion (λ (one : Placement). AreBalances one.1) new

placements_proper : (txid : Txid) (index : ℕ) (given : List (List Balance)) → AllByRecursion AreBalances given → AllProper (placements txid index given)
unfolding placements
placements_proper txid index [] are = tt
placements_proper txid index (balances ∷ given) are = (are.0, placements_proper txid (index + 1) given are.1)

pub can_place_all : (state : Runes) (new : List Placement) → AreProper state.bal → AllProper new → All IsSmall (place_all state new).runes → CanPlaceAll state new
unfolding place_all
can_place_all state [] proper are small = tt
can_place_all state (one ∷ new) proper are small = (
  record {
    proper = at_proper state.bal one.0 proper;
    fits = can_burn (balances_at state.bal one.0) state.runes (small_first (place state one) new small);
  },
  can_place_all (place state one) new (with_proper state.bal one.0 one.1 proper are.0) are.1 small,
)

can_settle : (at : Spot) (hand : InHand) (due : List Placement) (dealt : Allocation) → AreProper hand.bal → AllByRecursion AreBalances dealt.given → AreBalances dealt.burned
    → All IsSmall (settled_by at due hand dealt (placements at.txid 0 dealt.given)).runes → CanSettle at hand due dealt
can_settle at hand due dealt proper given burned = by_place (at.tx == 0) refl where
  mid : Runes
  mid = record { bal = hand.bal; runes = burn dealt.burned hand.runes; due = due }

  by_place : (b : Bool) → (at.tx == 0) ≡ b → let after : Runes =
      if b then record { bal = hand.bal; runes = burn dealt.burned hand.runes; due = due ++ placements at.txid 0 dealt.given }
      else place_all (record { bal = hand.bal; runes = burn dealt.burned hand.runes; due = due }) (placements at.txid 0 dealt.given) in
      All IsSmall after.runes → CanSettle at hand due dealt
  by_place true is small = record { burned = can_burn dealt.burned hand.runes small; proper = burned; displaced = λ other. absurd (other (zero_from at.tx is)) }
  by_place false is small = record {
    burned = can_burn dealt.burned hand.runes (small_first mid (placements at.txid 0 dealt.given) small);
    proper = burned;
    displaced = λ other. can_place_all mid (placements at.txid 0 dealt.given) proper (placements_proper at.txid 0 dealt.given given) small;
  }

burned_lawful : (artifact : Option Artifact) (pool : List Balance) (etching : Option RuneId) (outputs : List TxOut) → AreBalances pool → AreBalances (dealt_by artifact pool etching outputs).burned
burned_lawful None pool etching outputs are = lawful-balances_by (amount_burned pool outputs (gifts_from pool [] None None outputs)) (ids_of pool) are.rising
burned_lawful (Some (Stone stone)) pool etching outputs are =
    lawful-balances_by (amount_burned pool outputs (gifts_from pool stone.edicts etching stone.pointer outputs)) (ids_of pool) are.rising
burned_lawful (Some (Cenotaph mint name)) pool etching outputs are = are

-- ---- what there is of a rune is an amount

pub made_fits : (row : RuneRow) → IsBounded row → made_of row < 2 ^ 128
made_fits row bounded =
    let most = mul-le row.mints (amount_per_mint row.terms) (cap_in row.terms) (amount_per_mint row.terms) bounded.mints (omega arith) in
    let supply = bounded.supply in
    omega (arith, most, supply)

there_fits : (state : Runes) (row : RuneRow) → IsBounded row → IsSettled state row → amount_there state row < 2 ^ 128
there_fits state row bounded settled = let made = made_fits row bounded in omega (arith, made, settled)

pub all_small : (state : Runes) → Balanced state → All IsSmall state.runes
all_small state balanced k d less =
    let row = slice_index_or state.runes k d in
    let there = there_fits state row (balanced.bounded k d less) (balanced.settled k d less) in
    omega (arith, there)

pub not_by_id : (runes : List RuneRow) (id : RuneId) → by_id runes id ≡ None → AllByRecursion (λ (row : RuneRow). row.id ≢ id) runes
unfolding by_id
not_by_id [] id none = tt
not_by_id (row ∷ runes) id none = by_test (not_by_id runes id) (is_same row.id id) refl none where
  by_test : (by_id runes id ≡ None → AllByRecursion (λ (r : RuneRow). r.id ≢ id) runes) → (b : Bool) → is_same row.id id ≡ b → (if b then Some row else by_id runes id) ≡ None
      → AllByRecursion (λ (r : RuneRow). r.id ≢ id) (row ∷ runes)
  by_test rest true is none = let some : Some row ≡ None = none in absurd (cc some)
  by_test rest false is none = ((λ same. true≢false (sym (ap (λ (q : RuneId). is_same row.id q) (sym same) ∙ same_itself row.id) ∙ is)), rest none)

zero_where : (n : ℕ) → (n ≢ 0 → ⊥) → n ≡ 0
zero_where zero none = refl
zero_where (suc n) none = absurd (none (λ is. absurd (omega arith)))

pub amounts_fit : (state : Runes) → Balanced state → (id : RuneId) → amount_held_in state.bal id < 2 ^ 128
amounts_fit state balanced id = by_found (by_id state.runes id) refl where
  by_found : (there : Option RuneRow) → by_id state.runes id ≡ there → amount_held_in state.bal id < 2 ^ 128
  by_found None is =
      let others = All-from_recursion (λ (row : RuneRow). row.id ≢ id) state.runes (not_by_id state.runes id is) in
      let none = none_held state.bal id (λ at balances there. zero_where (amount_in balances id) (λ some.
      let row = found_row state.runes id ((balanced.held at balances there).1.known id some) in
      others row.1.0 row.0 row.1.1 (ap (λ (r : RuneRow). r.id) row.1.2 ∙ row.2))) in
      omega (arith, none)
  by_found (Some row) is =
      let stood = stands state.runes id row is in
      let there = there_fits state row (at_place IsBounded state.runes stood.place row stood.there balanced.bounded) (at_place (IsSettled state) state.runes stood.place row stood.there balanced.settled) in
      let same = ap (amount_held_in state.bal) stood.same in
      omega (arith, there, same)

-- ---- a mint and an etching

-- the rune of a mint
record Mints (state : Runes) (mint : Option Balance) (one : Balance) : Type 0 where
  row : RuneRow
  there : Stands state.runes one.0 row

mint_row : (state : Runes) (height : ℕ) (id : Option RuneId) (one : Balance) → mint_at height state.runes id ≡ Some one → Mints state (mint_at height state.runes id) one
mint_row state height None one is = let none : None ≡ Some one = is in absurd (cc none)
mint_row state height (Some id) one is =
    let gives = some_mapped (λ (amount : ℕ). (id, amount)) (option_and_then (λ row. minted row height) (by_id state.runes id)) one is in
    let found = some_then (λ row. minted row height) (by_id state.runes id) gives.0 gives.1 in
    let stood = stands state.runes id found.0 found.1 in
    record {
      row = found.0;
      there = record { place = stood.place; there = stood.there; same = stood.same ∙ ap (λ (m : Balance). m.0) gives.2 };
    }

once : (one : Balance) (id : RuneId) → id ≡ one.0 → mints_in (Some one) id ≡ 1
once one id is = ap (λ (b : Bool). if b then 1 else 0) (ap (λ (q : RuneId). is_same q one.0) is ∙ same_itself one.0)

amount_once : (one : Balance) (id : RuneId) → id ≡ one.0 → amount_in (one ∷ []) id ≡ one.1
amount_once one id is = ap (λ (b : Bool). unwrap_or (cond b (Some one.1) None) 0) (ap (λ (q : RuneId). is_same q one.0) is ∙ same_itself one.0)

can_mint : (mint : Option Balance) (one : Balance) (row : RuneRow) → mint ≡ Some one → Pays mint row → IsBounded row → CanMint one.0 row
can_mint mint one row is pays bounded = λ same.
    let room = pays.room bounded.mints in
    let counts : mints_in mint row.id ≡ 1 = ap (λ (m : Option Balance). mints_in m row.id) is ∙ once one row.id same in
    omega (arith, room, counts)

one_more : (n a : ℕ) → (n + 1) * a ≡ n * a + a
one_more n a = grind arith

mint_room : (held : ℕ) (mint : Option Balance) (one : Balance) (row : RuneRow) → mint ≡ Some one → row.id ≡ one.0 → Pays mint row → IsBounded row → held ≤ made_of row → held + one.1 < 2 ^ 128
mint_room held mint one row is same pays bounded less =
    let room = pays.room bounded.mints in
    let counts : mints_in mint row.id ≡ 1 = ap (λ (m : Option Balance). mints_in m row.id) is ∙ once one row.id same in
    let gives : amount_in (as_list mint) row.id ≡ one.1 = ap (λ (m : Option Balance). amount_in (as_list m) row.id) is ∙ amount_once one row.id same in
    let pay : amount_in (as_list mint) row.id ≡ mints_in mint row.id * amount_per_mint row.terms = pays.amount in
    let paid : mints_in mint row.id * amount_per_mint row.terms ≡ 1 * amount_per_mint row.terms = ap (λ n. n * amount_per_mint row.terms) counts in
    let most = mul-le (row.mints + 1) (amount_per_mint row.terms) (cap_in row.terms) (amount_per_mint row.terms) (omega (arith, room, counts)) (omega arith) in
    let more = one_more row.mints (amount_per_mint row.terms) in
    let supply = bounded.supply in
    omega (arith, most, more, supply, less, gives, pay, paid)

pool_below : (at : ℕ) (tx : Tx) (state : Runes) (id : RuneId) → Balanced state → amount_in (brought_of at tx state.bal).pool id ≤ amount_held_in state.bal id
pool_below at tx state id balanced = let sums = brought-of at tx state.bal id (all_rise state balanced) in omega (arith, sums)

abbrev id_in : RuneRow → RuneId
id_in row = row.id

absent_from : {A : Type 0} (of : RuneRow → A) (value : A) (runes : List RuneRow) → AllByRecursion (λ (row : RuneRow). of row ≢ value) runes → IsAbsent of runes value
absent_from of value runes all place has =
    let row = some_mapped of (slice_get runes place) value has in
    at_place (λ (r : RuneRow). of r ≢ value) runes place row.0 row.1 (All-from_recursion (λ (r : RuneRow). of r ≢ value) runes all) row.2

absent_like : {A : Type 0} (of : RuneRow → A) (etching : Option RuneRow) (row : RuneRow) (runes : List RuneRow) → etching ≡ Some row → NoneLike of etching runes → IsAbsent of runes (of row)
absent_like of None row runes is none = absurd (cc is)
absent_like of (Some etched) row runes is none =
    let same : etched ≡ row = cc is in
    subst (λ (r : RuneRow). IsAbsent of runes (of r)) same (absent_from of (of etched) runes none)

absent_id : (at : Spot) (etching : Option RuneRow) (row : RuneRow) (runes : List RuneRow) → etching ≡ Some row → IsRow at row → IsFreeFor at etching runes → IsAbsent (λ r. r.id) runes row.id
absent_id at None row runes is new free = absurd (cc is)
absent_id at (Some etched) row runes is new free =
    subst (λ (id : RuneId). IsAbsent (λ r. r.id) runes id) (sym new.id) (absent_from (λ r. r.id) (id_of at) runes (recursion_from_All (λ (r : RuneRow). r.id ≢ id_of at) runes free))

fresh_row : (state : Runes) (mint : Option Balance) (etching : Option RuneRow) (row : RuneRow) → etching ≡ Some row → AllFresh state mint etching → IsFresh state mint row
fresh_row state mint None row is fresh = absurd (cc is)
fresh_row state mint (Some etched) row is fresh = let same : etched ≡ row = cc is in subst (IsFresh state mint) same fresh

bounded_row : (etching : Option RuneRow) (row : RuneRow) → etching ≡ Some row → AllByRecursion IsBounded (as_list etching) → IsBounded row
bounded_row None row is bounded = absurd (cc is)
bounded_row (Some etched) row is bounded = let same : etched ≡ row = cc is in subst IsBounded same bounded.0

can_take_up : (at : Spot) (tx : Tx) (spent : List OutRow) (state : Runes) → at.tx < 2 ^ 32 → Balanced state → IsFree at state.runes
    → CanTakeUp state.runes (brought_of at.tx tx state.bal).pool (mint_by at.height state.runes (artifact_at at tx)) (etching_by at tx spent state.runes (artifact_at at tx))
can_take_up at tx spent state small balanced free =
    let artifact = artifact_at at tx in
    let mint = mint_by at.height state.runes artifact in
    let etching = etching_by at tx spent state.runes artifact in
    let minted_id = option_and_then mint_of artifact in
    let pool = (brought_of at.tx tx state.bal).pool in
    let pays = All-from_recursion (Pays mint) state.runes (all_pay at.height state.runes minted_id balanced.ids) in
    let free_for_it = free_for at tx spent state.runes free in
    let rows : (row : RuneRow) → etching ≡ Some row → IsRow at row = λ row is. etching_row at tx spent state.runes artifact row is in
    let fresh = all_fresh at state artifact etching balanced free_for_it rows in
    record {
      counts = λ one is k d less. can_mint mint one (slice_index_or state.runes k d) is (pays k d less) (balanced.bounded k d less);
      minted = λ one is.
          let of_mint = mint_row state at.height minted_id one is in
          let row = of_mint.row in
          let place = of_mint.there.place in
          let there = of_mint.there.there in
          let settled = at_place (IsSettled state) state.runes place row there balanced.settled in
          let below = pool_below at.tx tx state one.0 balanced in
          let same = ap (amount_held_in state.bal) of_mint.there.same in
          mint_room (amount_in pool one.0) mint one row is of_mint.there.same (at_place (Pays mint) state.runes place row there pays) (at_place IsBounded state.runes place row there balanced.bounded)
          (omega (arith, settled, below, same));
      id = λ row is. absent_id at etching row state.runes is (rows row is) free_for_it;
      name = λ row is. absent_like (λ r. r.name) etching row state.runes is (new_name at tx spent state.runes artifact etching small (recursion_from_All IsBounded state.runes balanced.bounded) free_for_it refl);
      premine = λ row is.
          let new = fresh_row state mint etching row is fresh in
          let below = pool_below at.tx tx state row.id balanced in
          let held = new.held_before in
          let minted_before = new.minted_before in
          let pooled = amount-pool_with pool mint row.id in
          let supply = (bounded_row etching row is (new_bounded at tx spent state.runes small)).supply in
          omega (arith, below, held, minted_before, pooled, supply);
    }

-- ---- all steps

pub can_turn : NothingIsLostOrMade → (at : Spot) (tx : Tx) (spent : List OutRow) (state : Runes) → at.tx < 2 ^ 32 → Balanced state → IsFree at state.runes → CanTurn at tx spent state
can_turn keeps at tx spent state small balanced free =
    let artifact = artifact_at at tx in
    let mint = mint_by at.height state.runes artifact in
    let etching = etching_by at tx spent state.runes artifact in
    let brought = brought_of at.tx tx state.bal in
    let hand = gathered_by at tx spent state artifact in
    let dealt = dealt_by artifact hand.pool hand.etching tx.outputs in
    let proper : AreProper state.bal = λ q balances there. (balanced.held q balances there).1.proper in
    let are : AreBalances hand.pool = pool_balances (pool_with brought.pool mint) (option_map premine_of etching) (pool_balances brought.pool mint (brought_balances at.tx tx state.bal)) in
    record {
      brings = record { amounts = amounts_fit state balanced; proper = proper };
      takes = can_take_up at tx spent state small balanced free;
      settles =
          can_settle at hand state.due dealt (brought_of_proper at.tx tx state.bal proper) (dealt_lawful artifact hand.pool hand.etching tx.outputs are)
          (burned_lawful artifact hand.pool hand.etching tx.outputs are) (all_small (turn at tx spent state) (stays_balanced keeps at tx spent state small balanced free));
    }
