-- What a transaction and a block leave at outpoints.
use Rattle.std.proofs.Common.{◌≡◌, ◌≢◌, ◌∙◌, ◌<◌, ◌≤◌, ℕ, zero, suc, ◌+◌, Bool, true, false, true≢false, cond, List, [], ◌∷◌, ◌++◌, length, refl, sym, ap, arith, Option, Some, None, Ordering}
use Rattle.std.specs.Prelude.{Contains, map, slice_get, unwrap_or, ◌==◌}
use Rattle.std.specs.FinMap.{get, get-insert, get-remove, remove}
use Rattle.std.specs.Ordering.{eq_by_cmp, is_eq}
use Rattle.std.specs.declared.cmp.Ordering.TheVariants.{Less, Equal, Greater}
use Rattle.std.proofs.lemmas.Bool.Decides.{nat_tests}
use Rattle.std.proofs.lemmas.Cmp.{eq_by_cmp_equiv}
use Rattle.std.proofs.lemmas.List.{length-map}
use Rattle.std.proofs.lemmas.Map.Made.{Contains-tail}
use Rattle.ox_block.specs.declared.block.OutPoint.{OutPoint}
use Rattle.ox_block.specs.declared.block.Tx.{Tx}
use Rattle.ox_block.specs.declared.block.TxIn.{TxIn}
use Rattle.ox_block.specs.declared.block.TxOut.{TxOut}
use Rattle.ox_block.specs.declared.block.Txid.{Txid}
use Rattle.ox_runestone.specs.declared.stone.Artifact.{Artifact}
use Rattle.ox_runestone.specs.declared.stone.Artifact.TheVariants.{Stone, Cenotaph}
use Rattle.ox_runestone.specs.declared.stone.RuneId.{RuneId}
use Rattle.ox_sat.specs.declared.profiles.Profile.{Profile}
use Rattle.ox_rules.specs.declared.moved.MovedTx.{MovedTx}
use Rattle.ox_rules.proofs.Orders.{outpoints_exact, outpoints_total}
use Rattle.ox_rules.specs.Outputs.{outpoint_cmp}
use Rattle.ox_rules.specs.declared.rows.OutRow.{OutRow}
use Rattle.ox_allocation.specs.Allocation.{Allocation, balances_from}
use Rattle.ox_allocation.specs.Balances.{Balance}
use Rattle.ox_allocation.specs.Gifts.{Gift}
use Rattle.ox_etching.specs.declared.spot.Spot.{Spot}
use Rattle.ox_ledger.specs.Block.{turn_all, turn_at}
use Rattle.ox_ledger.specs.Leaves.{IsMade, LeavesAt, LeavesLast, dealt_at, first_spot}
use Rattle.ox_ledger.specs.Runes.{BalanceMap, Brought, InHand, Placement, Runes, artifact_at, balances_at, brought_by, brought_of, burn, dealt_by, end, gathered_by, joined_with, place, place_all, placements, settled_by, turn, with_balances}
use Rattle.ox_ledger.proofs.Known.{place_all_due}

-- ---- outpoints

equal_of : (r : Ordering) → is_eq r ≡ true → r ≡ Equal
equal_of Less e = absurd (cc e)
equal_of Equal e = refl
equal_of Greater e = absurd (cc e)

same_outpoint : (q at : OutPoint) → eq_by_cmp outpoint_cmp q at ≡ true → q ≡ at
same_outpoint q at e = outpoints_exact q at (equal_of (outpoint_cmp q at) e)

itself : (at : OutPoint) → eq_by_cmp outpoint_cmp at at ≡ true
itself at = (eq_by_cmp_equiv outpoints_total).refl at

apart_of : (q at : OutPoint) → eq_by_cmp outpoint_cmp q at ≡ false → q ≢ at
apart_of q at e same = true≢false (sym (itself at) ∙ ap (λ (o : OutPoint). eq_by_cmp outpoint_cmp o at) (sym same) ∙ e)

test_of : (q at : OutPoint) → q ≢ at → eq_by_cmp outpoint_cmp q at ≡ false
test_of q at differ = by_test (eq_by_cmp outpoint_cmp q at) refl where
  by_test : (b : Bool) → eq_by_cmp outpoint_cmp q at ≡ b → b ≡ false
  by_test true e = absurd (differ (same_outpoint q at e))
  by_test false e = refl

-- ---- balances at an outpoint

removed : (bal : BalanceMap) (at : OutPoint) → get (remove bal at) at ≡ None
removed bal at = get-remove outpoints_total bal at at ∙ ap (λ (b : Bool). cond b None (get bal at)) (itself at)

not_removed : (bal : BalanceMap) (at q : OutPoint) → q ≢ at → get (remove bal at) q ≡ get bal q
not_removed bal at q differ = get-remove outpoints_total bal at q ∙ ap (λ (b : Bool). cond b None (get bal q)) (test_of q at differ)

at_with : (bal : BalanceMap) (at : OutPoint) (balances : List Balance) → balances_at (with_balances bal at balances) at ≡ balances
at_with bal at [] = ap (λ (there : Option (List Balance)). unwrap_or there []) (removed bal at)
at_with bal at (one ∷ balances) =
    ap (λ (there : Option (List Balance)). unwrap_or there [])
    (get-insert outpoints_total bal at (one ∷ balances) at ∙ ap (λ (b : Bool). cond b (Some (one ∷ balances)) (get bal at)) (itself at))

other_with : (bal : BalanceMap) (at : OutPoint) (balances : List Balance) (q : OutPoint) → q ≢ at → get (with_balances bal at balances) q ≡ get bal q
other_with bal at [] q differ = not_removed bal at q differ
other_with bal at (one ∷ balances) q differ =
    get-insert outpoints_total bal at (one ∷ balances) q ∙ ap (λ (b : Bool). cond b (Some (one ∷ balances)) (get bal q)) (test_of q at differ)

-- ---- outputs that are made

module _ (txid : Txid) where
  abbrev made_at : ℕ → OutPoint
  made_at index = record { txid = txid; index = index }

  -- another outpoint than these stays
  stays : (index : ℕ) (given : List (List Balance)) (state : Runes) (q : OutPoint) → ((k : ℕ) → index ≤ k → k < index + length given → q ≢ made_at k)
      → get (place_all state (placements txid index given)).bal q ≡ get state.bal q
  unfolding place_all placements
  stays index [] state q apart = refl
  stays index (balances ∷ given) state q apart =
      stays (index + 1) given (place state (made_at index, balances)) q (λ k low high. apart k (omega (arith, low)) (omega (arith, high)))
      ∙ other_with state.bal (made_at index) balances q (apart index (omega arith) (omega arith))

  before : (index k : ℕ) → index + 1 ≤ k → made_at index ≢ made_at k
  before index k low same = omega (arith, low, ap (λ (o : OutPoint). o.index) same)

  placed : (index : ℕ) (given : List (List Balance)) (state : Runes) (k : ℕ) (balances : List Balance) → slice_get given k ≡ Some balances
      → balances_at (place_all state (placements txid index given)).bal (made_at (index + k)) ≡ balances
  unfolding place_all placements
  placed index [] state k balances is = absurd (cc is)
  placed index (one ∷ given) state zero balances is =
      let here : index + 0 ≡ index = omega arith in
      let same : one ≡ balances = cc is in
      ap (λ (n : ℕ). balances_at (place_all (place state (made_at index, one)) (placements txid (index + 1) given)).bal (made_at n)) here
      ∙ ap (λ (there : Option (List Balance)). unwrap_or there []) (stays (index + 1) given (place state (made_at index, one)) (made_at index) (λ k low high. before index k low))
      ∙ at_with state.bal (made_at index) one
      ∙ same
  placed index (one ∷ given) state (suc k) balances is =
      let next : index + suc k ≡ (index + 1) + k = omega arith in
      ap (λ (n : ℕ). balances_at (place_all (place state (made_at index, one)) (placements txid (index + 1) given)).bal (made_at n)) next
      ∙ placed (index + 1) given (place state (made_at index, one)) k balances is

-- ---- what inputs bring

abbrev spent_by : List TxIn → List OutPoint
spent_by inputs = map (λ input. input.from) inputs

among_first : (x : OutPoint) (xs : List OutPoint) (q : OutPoint) → q ≡ x → Contains (x ∷ xs) q
among_first x xs q same = (0, omega arith, sym same)

among_later : (x : OutPoint) (xs : List OutPoint) (q : OutPoint) → Contains xs q → Contains (x ∷ xs) q
among_later x xs q there = (suc there.0, (let less = there.1 in omega (arith, less)), there.2)

still_none : (inputs : List TxIn) (bal : BalanceMap) (pool : List Balance) (q : OutPoint) → get bal q ≡ None → get (brought_by inputs bal pool).bal q ≡ None
unfolding brought_by
still_none [] bal pool q none = none
still_none (input ∷ inputs) bal pool q none = still_none inputs (remove bal input.from) (joined_with pool (balances_at bal input.from)) q (by_test (eq_by_cmp outpoint_cmp q input.from) refl) where
  by_test : (b : Bool) → eq_by_cmp outpoint_cmp q input.from ≡ b → get (remove bal input.from) q ≡ None
  by_test true e = ap (λ (o : OutPoint). get (remove bal input.from) o) (same_outpoint q input.from e) ∙ removed bal input.from
  by_test false e = not_removed bal input.from q (apart_of q input.from e) ∙ none

taken : (inputs : List TxIn) (bal : BalanceMap) (pool : List Balance) (q : OutPoint) → Contains (spent_by inputs) q → get (brought_by inputs bal pool).bal q ≡ None
unfolding brought_by
taken [] bal pool q there = let less = there.1 in absurd (omega (arith, less))
taken (input ∷ inputs) bal pool q there =
    by_test (eq_by_cmp outpoint_cmp q input.from) refl (taken inputs (remove bal input.from) (joined_with pool (balances_at bal input.from)) q)
  where
    by_test : (b : Bool) → eq_by_cmp outpoint_cmp q input.from ≡ b
        → (Contains (spent_by inputs) q → get (brought_by inputs (remove bal input.from) (joined_with pool (balances_at bal input.from))).bal q ≡ None)
        → get (brought_by inputs (remove bal input.from) (joined_with pool (balances_at bal input.from))).bal q ≡ None
    by_test true e later =
        still_none inputs (remove bal input.from) (joined_with pool (balances_at bal input.from)) q
        (ap (λ (o : OutPoint). get (remove bal input.from) o) (same_outpoint q input.from e) ∙ removed bal input.from)
    by_test false e later = later (Contains-tail input.from (spent_by inputs) q (λ same. apart_of q input.from e (sym same)) there)

left : (inputs : List TxIn) (bal : BalanceMap) (pool : List Balance) (q : OutPoint) → ¬ Contains (spent_by inputs) q → get (brought_by inputs bal pool).bal q ≡ get bal q
unfolding brought_by
left [] bal pool q apart = refl
left (input ∷ inputs) bal pool q apart =
    left inputs (remove bal input.from) (joined_with pool (balances_at bal input.from)) q (λ there. apart (among_later input.from (spent_by inputs) q there))
    ∙ not_removed bal input.from q (λ same. apart (among_first input.from (spent_by inputs) q same))

-- ---- what is dealt

length_from : (place : ℕ) (ids : List RuneId) (gifts : List Gift) (outputs : List TxOut) → length (balances_from place ids gifts outputs) ≡ length outputs
unfolding balances_from
length_from place ids gifts [] = refl
length_from place ids gifts (output ∷ outputs) = ap (λ (n : ℕ). suc n) (length_from (place + 1) ids gifts outputs)

each_dealt : (artifact : Option Artifact) (pool : List Balance) (etching : Option RuneId) (outputs : List TxOut) → length (dealt_by artifact pool etching outputs).given ≡ length outputs
each_dealt None pool etching outputs = length_from 0 _ _ outputs
each_dealt (Some (Stone stone)) pool etching outputs = length_from 0 _ _ outputs
each_dealt (Some (Cenotaph mint name)) pool etching outputs = length-map outputs (λ (output : TxOut). [])

-- ---- a turn

not_first : (n : ℕ) → n ≢ 0 → (n == 0) ≡ false
not_first zero differ = absurd (differ refl)
not_first (suc n) differ = grind (arith, nat_tests)

first : (n : ℕ) → n ≡ 0 → (n == 0) ≡ true
first zero is = refl
first (suc n) is = absurd (omega (arith, is))

-- a transaction with this in hand, of which this is burned
abbrev in_midst : List Placement → InHand → List Balance → Runes
in_midst due hand burned = record { bal = hand.bal; runes = burn burned hand.runes; due = due }

settled : (at : Spot) (due : List Placement) (hand : InHand) (dealt : Allocation) (new : List Placement) → at.tx ≢ 0
    → settled_by at due hand dealt new ≡ place_all (in_midst due hand dealt.burned) new
settled at due hand dealt new behind =
    ap (λ (b : Bool). cond b (record { bal = hand.bal; runes = burn dealt.burned hand.runes; due = due ++ new }) (place_all (in_midst due hand dealt.burned) new))
    (not_first at.tx behind)

brings : (place : ℕ) (tx : Tx) (bal : BalanceMap) → place ≢ 0 → brought_of place tx bal ≡ brought_by tx.inputs bal []
brings place tx bal behind = ap (λ (b : Bool). cond b (record { pool = []; bal = bal }) (brought_by tx.inputs bal [])) (not_first place behind)

module _ (at : Spot) (tx : Tx) (spent : List OutRow) (state : Runes) where
  abbrev hand : InHand
  hand = gathered_by at tx spent state (artifact_at at tx)

  abbrev dealt : Allocation
  dealt = dealt_at at tx spent state

  abbrev turned : Runes
  turned = place_all (in_midst state.due hand dealt.burned) (placements at.txid 0 dealt.given)

  turned_is : at.tx ≢ 0 → turn at tx spent state ≡ turned
  turned_is = settled at state.due hand dealt (placements at.txid 0 dealt.given)

  each : length dealt.given ≡ length tx.outputs
  each = each_dealt (artifact_at at tx) hand.pool hand.etching tx.outputs

  not_made : (q : OutPoint) → ¬ IsMade at tx q → get turned.bal q ≡ get hand.bal q
  not_made q apart =
      stays at.txid 0 dealt.given (in_midst state.due hand dealt.burned) q
      (λ k low high same. apart (ap (λ (o : OutPoint). o.txid) same, (let index = ap (λ (o : OutPoint). o.index) same in omega (arith, index, high, each))))

  at_other : at.tx ≢ 0 → (q : OutPoint) → ¬ IsMade at tx q → get (turn at tx spent state).bal q ≡ get (brought_by tx.inputs state.bal []).bal q
  at_other behind q apart =
      ap (λ (s : Runes). get s.bal q) (turned_is behind)
      ∙ not_made q apart
      ∙ ap (λ (brought : Brought). get brought.bal q) (brings at.tx tx state.bal behind)

  pub leaves_at : LeavesAt at tx spent state
  leaves_at = record {
    each = each;
    made = λ behind index balances there.
        let none : index ≡ 0 + index = omega arith in
        ap (λ (s : Runes). balances_at s.bal (record { txid = at.txid; index = index })) (turned_is behind)
        ∙ ap (λ (n : ℕ). balances_at turned.bal (record { txid = at.txid; index = n })) none
        ∙ placed at.txid 0 dealt.given (in_midst state.due hand dealt.burned) index balances there;
    gone = λ behind q apart there. at_other behind q apart ∙ taken tx.inputs state.bal [] q there;
    others = λ behind q apart other. at_other behind q apart ∙ left tx.inputs state.bal [] q other;
    coinbase = λ is.
        ap (λ (b : Bool). (cond b (record { bal = hand.bal; runes = burn dealt.burned hand.runes; due = state.due ++ placements at.txid 0 dealt.given }) turned).bal) (first at.tx is)
        ∙ ap (λ (b : Bool). (cond b (record { pool = []; bal = state.bal }) (brought_by tx.inputs state.bal [])).bal) (first at.tx is);
  }

-- ---- a block

-- behind the coinbase no transaction changes what is due
still_due : (at : Spot) (tx : Tx) (spent : List OutRow) (state : Runes) → at.tx ≢ 0 → (turn at tx spent state).due ≡ state.due
still_due at tx spent state behind =
    ap (λ (s : Runes). s.due) (turned_is at tx spent state behind)
    ∙ place_all_due (in_midst state.due (hand at tx spent state) (dealt at tx spent state).burned) (placements at.txid 0 (dealt at tx spent state).given)

all_due : (p : Profile) (height place : ℕ) (txs : List Tx) (moved : List MovedTx) (state : Runes) → 0 < place → (turn_all p height place txs moved state).due ≡ state.due
unfolding turn_all
all_due p height place [] moved state behind = refl
all_due p height place (tx ∷ txs) [] state behind = refl
all_due p height place (tx ∷ txs) (did ∷ moved) state behind =
    all_due p height (place + 1) txs moved (turn_at p height place tx did state) (omega arith)
    ∙ still_due (record { profile = p; height = height; tx = place; txid = did.txid }) tx did.spent state (λ is. omega (arith, is, behind))

-- what is due to outputs from the first on
record IsDue (txid : Txid) (given : List (List Balance)) (state : Runes) : Type 0 where
  due : state.due ≡ placements txid 0 given

end_is : (txid : Txid) (given : List (List Balance)) (state : Runes) → IsDue txid given state
    → end state ≡ place_all (record { bal = state.bal; runes = state.runes; due = [] }) (placements txid 0 given)
end_is txid given state is = ap (λ (new : List Placement). place_all (record { bal = state.bal; runes = state.runes; due = [] }) new) is.due

module _ (p : Profile) (height : ℕ) (coinbase : Tx) (txs : List Tx) (did : MovedTx) (moved : List MovedTx) (state : Runes) (undue : state.due ≡ []) where
  abbrev given : List (List Balance)
  given = (dealt_at (first_spot p height did) coinbase did.spent state).given

  abbrev last : Runes
  last = turn_all p height 0 (coinbase ∷ txs) (did ∷ moved) state

  is_due : IsDue did.txid given last
  unfolding turn_all
  is_due = record {
    due = all_due p height 1 txs moved (turn (first_spot p height did) coinbase did.spent state) (omega arith)
        ∙ ap (λ (due : List Placement). due ++ placements did.txid 0 given) undue;
  }

  abbrev ended : Runes
  ended = place_all (record { bal = last.bal; runes = last.runes; due = [] }) (placements did.txid 0 given)

  pub leaves_last : LeavesLast p height coinbase txs did moved state
  leaves_last = record {
    made = λ index balances there.
        let none : index ≡ 0 + index = omega arith in
        ap (λ (s : Runes). balances_at s.bal (record { txid = did.txid; index = index })) (end_is did.txid given last is_due)
        ∙ ap (λ (n : ℕ). balances_at ended.bal (record { txid = did.txid; index = n })) none
        ∙ placed did.txid 0 given (record { bal = last.bal; runes = last.runes; due = [] }) index balances there;
    others = λ q apart.
        ap (λ (s : Runes). get s.bal q) (end_is did.txid given last is_due)
        ∙ stays did.txid 0 given (record { bal = last.bal; runes = last.runes; due = [] }) q
        (λ k low high same. apart (
          ap (λ (o : OutPoint). o.txid) same,
          (let index = ap (λ (o : OutPoint). o.index) same in
              let all = each (first_spot p height did) coinbase did.spent state in
              omega (arith, index, high, all)),
        ));
  }
