-- A balanced state is balanced after a transaction.
use Rattle.std.proofs.Common.{◌≡◌, ◌∙◌, ℕ, ◌+◌, ◌^◌, ◌<◌, ◌≤◌, Bool, true, false, List, [], ◌∷◌, ◌++◌, map, refl, sym, ap, subst, arith, Option, Some, None}
use Rattle.std.specs.Prelude.{◌==◌, option_and_then, if◌then◌else◌}
use Rattle.std.specs.List.{AllByRecursion}
use Rattle.std.specs.List.Sorted.{IsStrictlySortedBy}
use Rattle.std.specs.Option.{option_map}
use Rattle.std.proofs.lemmas.List.Elements.{All-from_recursion, recursion_from_All}
use Rattle.ox_block.specs.declared.block.Tx.{Tx}
use Rattle.ox_block.specs.declared.block.TxOut.{TxOut}
use Rattle.ox_runestone.specs.declared.stone.Artifact.{Artifact}
use Rattle.ox_runestone.specs.declared.stone.Artifact.TheVariants.{Stone, Cenotaph}
use Rattle.ox_runestone.specs.declared.stone.RuneId.{RuneId}
use Rattle.ox_script.specs.Shape.{is_return}
use Rattle.ox_rules.specs.Transfer.{as_list}
use Rattle.ox_rules.specs.declared.rows.OutRow.{OutRow}
use Rattle.ox_allocation.specs.Allocation.{Allocation, amount_at, balances_from, gifts_from}
use Rattle.ox_allocation.specs.Balances.{AreBalances, Balance, amount_in, balances_by, id_cmp, ids_of}
use Rattle.ox_allocation.specs.Gifts.{Gift}
use Rattle.ox_allocation.specs.Laws.{NothingIsLostOrMade}
use Rattle.ox_allocation.proofs.BalanceLemmas.{no_balances}
use Rattle.ox_allocation.proofs.Sorting.{lawful-balances_by}
use Rattle.ox_etching.specs.declared.spot.Spot.{Spot}
use Rattle.ox_etching.specs.Minted.{minted}
use Rattle.ox_etching.specs.declared.row.RuneRow.{RuneRow}
use Rattle.ox_ledger.specs.Balanced.{AreKnown, Balanced, amount_held}
use Rattle.ox_ledger.specs.Runes.{BalanceMap, InHand, Placement, Runes, artifact_at, brought_of, burn, by_id, dealt_by, etching_by, in_hand, mint_at, mint_by, mint_of, place_all, placements, pool_with, premine_of, settled_by, turn}
use Rattle.ox_ledger.specs.Turn.{IsFree, TurnAdds}
use Rattle.ox_ledger.proofs.Deals.{deals}
use Rattle.ox_ledger.proofs.Distinct.{get_mapped, same_after}
use Rattle.ox_ledger.proofs.Fresh.{some_mapped, some_then}
use Rattle.ox_ledger.proofs.Held.{amount_held-cons}
use Rattle.ox_ledger.proofs.Known.{AllKnown, Holds, Knows, Member, Within, brought_of_holds, brought_of_within, ids_in, known_placements, knows_from, knows_to, member_front, member_last, more_within, place_all_due, place_all_holds}
use Rattle.ox_ledger.proofs.Pools.{brought_balances, pool_balances}
use Rattle.ox_ledger.proofs.RowsStay.{RowsBalanced, rows_stay}
use Rattle.ox_ledger.proofs.Settled.{stands}
use Rattle.ox_ledger.proofs.TurnsAdd.{turn_adds}

-- ---- with more runes

knows_more : (ids more : List RuneId) (balances : List Balance) → Knows ids balances → Knows (ids ++ more) balances
knows_more ids more balances knows = record { proper = knows.proper; known = λ id some. member_front ids more id (knows.known id some) }

holds_more : (ids more : List RuneId) (bal : BalanceMap) → Holds ids bal → Holds (ids ++ more) bal
holds_more ids more bal holds at balances there = let was = holds at balances there in (was.0, knows_more ids more balances was.1)

known_more : (ids more : List RuneId) (due : List Placement) → AllKnown ids due → AllKnown (ids ++ more) due
known_more ids more [] known = tt
known_more ids more (new ∷ due) known = (knows_more ids more new.1 known.0, known_more ids more due known.1)

-- ---- what is in hand

abbrev IsMember : List RuneId → Option Balance → Type 0
IsMember ids None = Unit {0}
IsMember ids (Some one) = Member ids one.0

pool_within : (ids : List RuneId) (pool : List Balance) (one : Option Balance) → Within ids pool → IsMember ids one → Within ids (pool_with pool one)
pool_within ids pool None within member = within
pool_within ids pool (Some one) within member = more_within ids pool one.0 one.1 within member

mint_member : (height : ℕ) (runes : List RuneRow) (id : Option RuneId) (mint : Option Balance) → mint_at height runes id ≡ mint → IsMember (ids_in runes) mint
mint_member height runes id None is = tt
mint_member height runes None (Some mint) is = let none : None ≡ Some mint = is in absurd (cc none)
mint_member height runes (Some id) (Some mint) is =
    let gives = some_mapped (λ (amount : ℕ). (id, amount)) (option_and_then (λ row. minted row height) (by_id runes id)) mint is in
    let found = some_then (λ row. minted row height) (by_id runes id) gives.0 gives.1 in
    let stood = stands runes id found.0 found.1 in
    let mint_id : id ≡ mint.0 = ap (λ (m : Balance). m.0) gives.2 in
    (stood.place, get_mapped (λ (r : RuneRow). r.id) runes stood.place ∙ ap (option_map (λ (r : RuneRow). r.id)) stood.there ∙ ap Some (stood.same ∙ mint_id))

member_more : (ids more : List RuneId) (one : Option Balance) → IsMember ids one → IsMember (ids ++ more) one
member_more ids more None member = tt
member_more ids more (Some one) member = member_front ids more one.0 member

premine_member : (ids : List RuneId) (etching : Option RuneRow) → IsMember (ids ++ ids_in (as_list etching)) (option_map premine_of etching)
premine_member ids None = tt
premine_member ids (Some row) = member_last ids row.id

-- ---- what is given

by_return : (b : Bool) (balances : List Balance) → AreBalances balances → AreBalances (if b then [] else balances)
by_return true balances are = no_balances
by_return false balances are = are

from_lawful : (k : ℕ) (ids : List RuneId) (gifts : List Gift) (outputs : List TxOut) → IsStrictlySortedBy id_cmp ids → AllByRecursion AreBalances (balances_from k ids gifts outputs)
unfolding balances_from
from_lawful k ids gifts [] rising = tt
from_lawful k ids gifts (output ∷ outputs) rising =
    (by_return (is_return output.script) (balances_by (amount_at k gifts) ids) (lawful-balances_by (amount_at k gifts) ids rising), from_lawful (k + 1) ids gifts outputs rising)

none_lawful : (outputs : List TxOut) → AllByRecursion AreBalances (map (λ (output : TxOut). []) outputs)
none_lawful [] = tt
none_lawful (output ∷ outputs) = (no_balances, none_lawful outputs)

pub dealt_lawful : (artifact : Option Artifact) (pool : List Balance) (etching : Option RuneId) (outputs : List TxOut) → AreBalances pool
    → AllByRecursion AreBalances (dealt_by artifact pool etching outputs).given
dealt_lawful None pool etching outputs are = from_lawful 0 (ids_of pool) (gifts_from pool [] None None outputs) outputs are.rising
dealt_lawful (Some (Stone stone)) pool etching outputs are = from_lawful 0 (ids_of pool) (gifts_from pool stone.edicts etching stone.pointer outputs) outputs are.rising
dealt_lawful (Some (Cenotaph mint name)) pool etching outputs are = none_lawful outputs

given_known : (ids : List RuneId) (pool : List Balance) (given : List (List Balance)) → AllByRecursion AreBalances given → Within ids pool
    → ((id : RuneId) → amount_held given id ≤ amount_in pool id) → AllByRecursion (Knows ids) given
given_known ids pool [] are within below = tt
given_known ids pool (balances ∷ given) are within below = (
  record { proper = are.0; known = λ id some. within id (λ none. some (let sums = amount_held-cons balances given id in let most = below id in omega arith)) },
  given_known ids pool given are.1 within (λ id. let sums = amount_held-cons balances given id in let most = below id in omega arith),
)

-- ---- all outputs and all that is due

record AllHold (ids : List RuneId) (state : Runes) : Type 0 where
  held : Holds ids state.bal
  due : AllKnown ids state.due

known_append : (ids : List RuneId) (due new : List Placement) → AllKnown ids due → AllKnown ids new → AllKnown ids (due ++ new)
known_append ids [] new first second = second
known_append ids (one ∷ due) new first second = (first.0, known_append ids due new first.1 second)

settled_hold : (ids : List RuneId) (at : Spot) (due : List Placement) (hand : InHand) (dealt : Allocation) → Holds ids hand.bal → AllKnown ids due → AllByRecursion (Knows ids) dealt.given
    → AllHold ids (settled_by at due hand dealt (placements at.txid 0 dealt.given))
settled_hold ids at due hand dealt holds known given = by_place (at.tx == 0) where
  by_place : (b : Bool) → AllHold ids
      (if b then record { bal = hand.bal; runes = burn dealt.burned hand.runes; due = due ++ placements at.txid 0 dealt.given }
      else place_all (record { bal = hand.bal; runes = burn dealt.burned hand.runes; due = due }) (placements at.txid 0 dealt.given))
  by_place true = record { held = holds; due = known_append ids due (placements at.txid 0 dealt.given) known (known_placements ids at.txid 0 dealt.given given) }
  by_place false =
      let mid : Runes = record { bal = hand.bal; runes = burn dealt.burned hand.runes; due = due } in
      record {
        held = place_all_holds ids mid (placements at.txid 0 dealt.given) holds (known_placements ids at.txid 0 dealt.given given);
        due = subst (λ (all : List Placement). AllKnown ids all) (sym (place_all_due mid (placements at.txid 0 dealt.given))) known;
      }

pub holds_from : (state : Runes) → Balanced state → Holds (ids_in state.runes) state.bal
holds_from state balanced at balances there = let was = balanced.held at balances there in (was.0, knows_from state.runes balances was.1)

pub due_from : (runes : List RuneRow) (due : List Placement) → AllByRecursion (λ (new : Placement). AreKnown runes new.1) due → AllKnown (ids_in runes) due
due_from runes [] known = tt
due_from runes (new ∷ due) known = (knows_from runes new.1 known.0, due_from runes due known.1)

due_to : (runes : List RuneRow) (due : List Placement) → AllKnown (ids_in runes) due → AllByRecursion (λ (new : Placement). AreKnown runes new.1) due
due_to runes [] known = tt
due_to runes (new ∷ due) known = (knows_to runes new.1 known.0, due_to runes due known.1)

all_hold : NothingIsLostOrMade → (at : Spot) (tx : Tx) (spent : List OutRow) (state : Runes) → Balanced state
    → AllHold (ids_in state.runes ++ ids_in (as_list (etching_by at tx spent state.runes (artifact_at at tx)))) (turn at tx spent state)
all_hold keeps at tx spent state balanced =
    let artifact = artifact_at at tx in
    let mint = mint_by at.height state.runes artifact in
    let etching = etching_by at tx spent state.runes artifact in
    let old = ids_in state.runes in
    let ids = old ++ ids_in (as_list etching) in
    let brought = brought_of at.tx tx state.bal in
    let hand = in_hand brought state.runes mint etching in
    let dealt = dealt_by artifact hand.pool hand.etching tx.outputs in
    let holds : Holds ids state.bal = holds_more old (ids_in (as_list etching)) state.bal (holds_from state balanced) in
    let are : AreBalances hand.pool = pool_balances (pool_with brought.pool mint) (option_map premine_of etching) (pool_balances brought.pool mint (brought_balances at.tx tx state.bal)) in
    let within : Within ids hand.pool =
    pool_within ids (pool_with brought.pool mint) (option_map premine_of etching)
    (pool_within ids brought.pool mint (brought_of_within ids at.tx tx state.bal holds)
    (member_more old (ids_in (as_list etching)) mint (mint_member at.height state.runes (option_and_then mint_of artifact) mint refl)))
    (premine_member old etching) in
    let below : (id : RuneId) → amount_held dealt.given id ≤ amount_in hand.pool id = λ id. let all = deals keeps at tx hand.pool hand.etching are id in omega (arith, all) in
    settled_hold ids at state.due hand dealt (brought_of_holds ids at.tx tx state.bal holds)
    (known_more old (ids_in (as_list etching)) state.due
    (due_from state.runes state.due (recursion_from_All (λ (new : Placement). AreKnown state.runes new.1) state.due balanced.due)))
    (given_known ids hand.pool dealt.given (dealt_lawful artifact hand.pool hand.etching tx.outputs are) within below)

-- a transaction leaves a balanced state balanced
pub stays_balanced : NothingIsLostOrMade → (at : Spot) (tx : Tx) (spent : List OutRow) (state : Runes) → at.tx < 2 ^ 32 → Balanced state → IsFree at state.runes
    → Balanced (turn at tx spent state)
stays_balanced keeps at tx spent state small balanced none =
    let after = turn at tx spent state in
    let artifact = artifact_at at tx in
    let mint = mint_by at.height state.runes artifact in
    let etching = etching_by at tx spent state.runes artifact in
    let adds : TurnAdds at tx spent state after = turn_adds keeps at tx spent state balanced none in
    let rows : RowsBalanced after = rows_stay keeps at tx spent state small balanced none in
    let ids : ids_in after.runes ≡ ids_in state.runes ++ ids_in (as_list etching) = same_after (λ (r : RuneRow). r.id) (λ row n m. refl) mint etching state after adds in
    let hold : AllHold (ids_in after.runes) after = subst (λ (all : List RuneId). AllHold all after) (sym ids) (all_hold keeps at tx spent state balanced) in
    record {
      ids = rows.ids;
      names = rows.names;
      bounded = rows.bounded;
      held = λ q balances there. let was = hold.held q balances there in (was.0, knows_to after.runes balances was.1);
      due = All-from_recursion (λ (new : Placement). AreKnown after.runes new.1) after.due (due_to after.runes after.due hold.due);
      settled = rows.settled;
    }
