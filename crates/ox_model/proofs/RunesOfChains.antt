-- The runes of a block's transactions come from its height, and stand at outputs that are there.
use Rattle.std.proofs.Common.{◌≡◌, ◌≢◌, ◌∙◌, ◌<◌, ◌≤◌, ◌⊎◌, ℕ, suc, ◌+◌, ◌^◌, Bool, true, false, cond, List, [], ◌∷◌, ◌++◌, length, map, refl, sym, ap, subst, arith, inl, inr, Option, Some, None, Ok, nat_lt}
use Rattle.std.specs.Prelude.{◌==◌, ◌&&◌, ◌||◌, All, IsSome, IsTrue, if◌then◌else◌}
use Rattle.std.specs.List.{AllByRecursion}
use Rattle.std.specs.Ordering.{eq_by_cmp}
use Rattle.std.specs.FinMap.{get, insert, remove, get-insert, get-remove, get-empty}
use Rattle.std.proofs.lemmas.Bool.{and_parts, lt-ltb, ltb-true}
use Rattle.std.proofs.lemmas.Bool.Decides.{Decides-eqb}
use Rattle.std.proofs.lemmas.List.{length-map}
use Rattle.std.proofs.lemmas.List.Elements.{All-from_recursion, All-weaker, recursion_from_All}
use Rattle.ox_block.specs.declared.block.OutPoint.{OutPoint}
use Rattle.ox_block.specs.declared.block.Tx.{Tx}
use Rattle.ox_block.specs.declared.block.TxIn.{TxIn}
use Rattle.ox_block.specs.declared.block.TxOut.{TxOut}
use Rattle.ox_block.specs.declared.block.Txid.{Txid}
use Rattle.ox_runestone.specs.declared.stone.Artifact.{Artifact}
use Rattle.ox_runestone.specs.declared.stone.Artifact.TheVariants.{Stone, Cenotaph}
use Rattle.ox_runestone.specs.declared.stone.RuneId.{RuneId}
use Rattle.ox_sat.specs.declared.profiles.Profile.{Profile}
use Rattle.ox_sat.specs.declared.profiles.ProfileName.{ProfileName}
use Rattle.ox_sat.specs.declared.profiles.ProfileName.TheVariants.{Mainnet, Regtest, Lab}
use Rattle.ox_sat.specs.Profiles.{IsProfile, profile_named}
use Rattle.ox_rules.specs.declared.moved.MovedTx.{MovedTx}
use Rattle.ox_rules.specs.declared.refusal.Refusal.{Refusal}
use Rattle.ox_rules.specs.declared.refusal.Refusal.TheVariants.{UnknownOutput}
use Rattle.ox_rules.specs.declared.rows.OutRow.{OutRow}
use Rattle.ox_rules.specs.Deal.{deal}
use Rattle.ox_rules.specs.Outputs.{Outputs, outpoint_cmp, sats_of}
use Rattle.ox_rules.specs.Transfer.{Spent, Taken, Transferred, as_list, claimable_sats, or_refuse, place_rows, spend, spend_all, spent_by, take_rows, transfer_of, txid_of, values_of}
use Rattle.ox_rules.proofs.Conservation.{bind_ok, chosen, deal_keeps, ok_same}
use Rattle.ox_rules.proofs.Orders.{outpoints_total}
use Rattle.ox_allocation.specs.Allocation.{balances_from}
use Rattle.ox_allocation.specs.Balances.{Balance, ids_of, is_same}
use Rattle.ox_allocation.specs.Gifts.{Gift}
use Rattle.ox_allocation.specs.Allocation.{gifts_from}
use Rattle.ox_allocation.proofs.Ids.{same_id, same_itself}
use Rattle.ox_allocation.proofs.LawLemmas.{lost_or_made}
use Rattle.ox_etching.specs.declared.spot.Spot.{Spot}
use Rattle.ox_etching.specs.Etched.{id_of}
use Rattle.ox_etching.specs.declared.row.RuneRow.{RuneRow}
use Rattle.ox_ledger.specs.Balanced.{Balanced}
use Rattle.ox_ledger.specs.Block.{first_rune, no_runes, runes_after, turn_all, turn_at}
use Rattle.ox_ledger.specs.Runes.{BalanceMap, Brought, Placement, Runes, artifact_at, balances_at, brought_by, burn, burn_of, dealt_by, etching_by, gathered_by, mint_by, mint_more, place, place_all, placements, turn, with_balances, with_mint}
use Rattle.ox_ledger.proofs.BlockStays.{block_balanced, nothing_due}
use Rattle.ox_ledger.proofs.Fresh.{etching_row}
use Rattle.ox_ledger.proofs.Known.{place_all_due}
use Rattle.ox_ledger.proofs.Settled.{all_append}
use Rattle.ox_ledger.proofs.StartBalanced.{start_balanced}
use Rattle.ox_model.specs.Index.{Index}
use Rattle.ox_model.specs.Sound.{SoundRunes, is_first, is_of_chain}

-- ---- where runes come from

-- this holds of each rune's id
abbrev pub OfIds : (RuneId → Type 0) → List RuneRow → Type 0
OfIds P runes = AllByRecursion (λ (row : RuneRow). P row.id) runes

ids_mapped : (P : RuneId → Type 0) (f : RuneRow → RuneRow) → ((row : RuneRow) → (f row).id ≡ row.id) → (runes : List RuneRow) → OfIds P runes → OfIds P (map f runes)
ids_mapped P f same [] all = tt
ids_mapped P f same (row ∷ runes) all = (subst P (sym (same row)) all.0, ids_mapped P f same runes all.1)

ids_burn : (P : RuneId → Type 0) (balances : List Balance) (runes : List RuneRow) → OfIds P runes → OfIds P (burn balances runes)
ids_burn P balances runes all = ids_mapped P (burn_of balances) (λ row. refl) runes all

ids_mint : (P : RuneId → Type 0) (runes : List RuneRow) (mint : Option Balance) → OfIds P runes → OfIds P (with_mint runes mint)
ids_mint P runes None all = all
ids_mint P runes (Some mint) all = ids_mapped P (mint_more mint.0) same runes all where
  by_test : (row : RuneRow) (b : Bool) → let new : RuneRow = if b then record row { mints = row.mints + 1 } else row in new.id ≡ row.id
  by_test row true = refl
  by_test row false = refl

  same : (row : RuneRow) → (mint_more mint.0 row).id ≡ row.id
  same row = by_test row (is_same row.id mint.0)

ids_etched : (P : RuneId → Type 0) (at : Spot) (etching : Option RuneRow) → P (id_of at) → ((row : RuneRow) → etching ≡ Some row → row.id ≡ id_of at) → OfIds P (as_list etching)
ids_etched P at None here rows = tt
ids_etched P at (Some row) here rows = (subst P (sym (rows row refl)) here, tt)

ids_placed : (P : RuneId → Type 0) (state : Runes) (new : List Placement) → OfIds P state.runes → OfIds P (place_all state new).runes
unfolding place_all
ids_placed P state [] all = all
ids_placed P state (one ∷ new) all = ids_placed P (place state one) new (ids_burn P (balances_at state.bal one.0) state.runes all)

ids_settled : (P : RuneId → Type 0) (b : Bool) (mid : Runes) (due new : List Placement) → OfIds P mid.runes
    → let after : Runes = if b then record { bal = mid.bal; runes = mid.runes; due = due } else place_all mid new in OfIds P after.runes
ids_settled P true mid due new all = all
ids_settled P false mid due new all = ids_placed P mid new all

pub ids_turn : (P : RuneId → Type 0) (at : Spot) (tx : Tx) (spent : List OutRow) (state : Runes) → P (id_of at) → OfIds P state.runes → OfIds P (turn at tx spent state).runes
ids_turn P at tx spent state here all =
    let artifact = artifact_at at tx in
    let etching = etching_by at tx spent state.runes artifact in
    let minted = with_mint state.runes (mint_by at.height state.runes artifact) in
    let hand = gathered_by at tx spent state artifact in
    let dealt = dealt_by artifact hand.pool hand.etching tx.outputs in
    let new = placements at.txid 0 dealt.given in
    let mid : Runes = record { bal = hand.bal; runes = burn dealt.burned hand.runes; due = state.due } in
    ids_settled P (at.tx == 0) mid (state.due ++ new) new
    (ids_burn P dealt.burned hand.runes
    (all_append (λ (row : RuneRow). P row.id) minted (as_list etching) (ids_mint P state.runes (mint_by at.height state.runes artifact) all)
    (ids_etched P at etching here (λ row is. (etching_row at tx spent state.runes artifact row is).id))))

ids_turns : (P : RuneId → Type 0) (p : Profile) (height place : ℕ) (txs : List Tx) (moved : List MovedTx) (state : Runes) → ((tx : ℕ) → P (record { block = height; tx = tx })) → OfIds P state.runes
    → OfIds P (turn_all p height place txs moved state).runes
unfolding turn_all
ids_turns P p height place [] moved state here all = all
ids_turns P p height place (tx ∷ txs) [] state here all = all
ids_turns P p height place (tx ∷ txs) (one ∷ moved) state here all =
    ids_turns P p height (place + 1) txs moved (turn_at p height place tx one state) here
    (ids_turn P (record { profile = p; height = height; tx = place; txid = one.txid }) tx one.spent state (here place) all)

ids_after : (P : RuneId → Type 0) (p : Profile) (height : ℕ) (txs : List Tx) (moved : List MovedTx) (state : Runes) → ((tx : ℕ) → P (record { block = height; tx = tx })) → OfIds P state.runes
    → OfIds P (runes_after p height txs moved state).runes
ids_after P p height txs moved state here all =
    let last = turn_all p height 0 txs moved state in
    ids_placed P (record { bal = last.bal; runes = last.runes; due = [] }) last.due (ids_turns P p height 0 txs moved state here all)

-- a rune comes from below a height, or is there from the start
abbrev IsIdBelow : Profile → ℕ → RuneId → Type 0
IsIdBelow p height id = (id.block < height) ⊎ ((p.first_rune ≡ true) × (id ≡ first_rune.id))

abbrev pub ComesBelow : Profile → ℕ → RuneRow → Type 0
ComesBelow p height row = IsIdBelow p height row.id

abbrev pub IsOfChain : Profile → ℕ → RuneRow → Type 0
IsOfChain p height row = IsTrue (is_of_chain p height row)

pub comes_from : (p : Profile) (height : ℕ) (row : RuneRow) → IsOfChain p height row → ComesBelow p height row
comes_from p height row of = by_tests (nat_lt row.id.block height) (is_first p row) refl refl of where
  by_tests : (a b : Bool) → nat_lt row.id.block height ≡ a → is_first p row ≡ b → IsTrue (a || b) → ComesBelow p height row
  by_tests true b low first is = inl (ltb-true _ _ low)
  by_tests false true low first is = let both = and_parts p.first_rune (is_same row.id first_rune.id) first in inr (both.0, same_id row.id first_rune.id both.1)
  by_tests false false low first none = absurd (cc none)

comes_to : (p : Profile) (height : ℕ) (row : RuneRow) → ComesBelow p height row → IsOfChain p height row
comes_to p height row (inl low) = ap (λ (b : Bool). b || is_first p row) (lt-ltb _ _ low)
comes_to p height row (inr first) =
    let same : is_same row.id first_rune.id ≡ true = ap (λ (id : RuneId). is_same id first_rune.id) first.1 ∙ same_itself first_rune.id in
    let is : is_first p row ≡ true = ap (λ (b : Bool). b && is_same row.id first_rune.id) first.0 ∙ same in
    ap (λ (b : Bool). nat_lt row.id.block height || b) is ∙ or_true (nat_lt row.id.block height) where
      or_true : (b : Bool) → (b || true) ≡ true
      or_true true = refl
      or_true false = refl

id_higher : (p : Profile) (height : ℕ) (id : RuneId) → IsIdBelow p height id → IsIdBelow p (height + 1) id
id_higher p height id (inl low) = inl (omega arith)
id_higher p height id (inr first) = inr first

pub come_below : (p : Profile) (height : ℕ) (txs : List Tx) (moved : List MovedTx) (state : Runes) → All (IsOfChain p height) state.runes
    → All (IsOfChain p (height + 1)) (runes_after p height txs moved state).runes
come_below p height txs moved state all =
    All-weaker (ComesBelow p (height + 1)) (IsOfChain p (height + 1)) (comes_to p (height + 1)) (runes_after p height txs moved state).runes
    (All-from_recursion (ComesBelow p (height + 1)) (runes_after p height txs moved state).runes
    (ids_after (IsIdBelow p (height + 1)) p height txs moved state (λ tx. inl (omega arith))
    (recursion_from_All (ComesBelow p (height + 1)) state.runes
    (All-weaker (IsOfChain p height) (ComesBelow p (height + 1)) (λ row of. id_higher p height row.id (comes_from p height row of)) state.runes all))))

-- where there is a rune from the start, its block is below those in which runes are etched
first_apart : (p : Profile) → IsProfile p → p.first_rune ≡ true → 1 < p.rune_start
first_apart p known first = by_name known.name (ap (λ (q : Profile). q.first_rune) (sym known.is) ∙ first) (ap (λ (q : Profile). q.rune_start) known.is) where
  by_name : (name : ProfileName) → (profile_named name).first_rune ≡ true → p.rune_start ≡ (profile_named name).rune_start → 1 < p.rune_start
  by_name Mainnet is start = omega (arith, start)
  by_name Regtest is start = absurd (cc is)
  by_name Lab is start = absurd (cc is)

pub other_height : (p : Profile) (height : ℕ) (row : RuneRow) → IsProfile p → p.rune_start ≤ height → ComesBelow p height row → row.id.block ≢ height
other_height p height row known start (inl low) same = absurd (omega (arith, low, same))
other_height p height row known start (inr first) same =
    let one : row.id.block ≡ 1 = ap (λ (id : RuneId). id.block) first.1 in
    absurd (omega (arith, first_apart p known first.0, start, one, same))

abbrev undue : Runes → Runes
undue state = record { bal = state.bal; runes = state.runes; due = [] }

pub stay_balanced : (p : Profile) (height : ℕ) (txs : List Tx) (moved : List MovedTx) (state : Runes) → IsProfile p → length txs ≤ 2 ^ 32 → All (IsOfChain p height) state.runes → Balanced state
    → Balanced (undue (runes_after p height txs moved state))
stay_balanced p height txs moved state known few below balanced =
    let after = runes_after p height txs moved state in
    let due : after.due ≡ [] = nothing_due p height txs moved state in
    subst (λ (due : List Placement). Balanced (record { bal = after.bal; runes = after.runes; due = due })) due
    (block_balanced lost_or_made p height txs moved state few balanced
    (λ start. All-weaker (IsOfChain p height) (λ (row : RuneRow). row.id.block ≢ height) (λ row of. other_height p height row known start (comes_from p height row of)) state.runes below))

-- ---- where balances are

-- unspent outputs alone hold runes
abbrev pub Within : BalanceMap → Outputs → Type 0
Within bal outs = (at : OutPoint) (balances : List Balance) → get bal at ≡ Some balances → IsSome (get outs at)

within_removed : (bal : BalanceMap) (outs : Outputs) (at : OutPoint) → Within bal outs → Within (remove bal at) (remove outs at)
within_removed bal outs at within q balances is =
    subst (λ (o : Option OutRow). IsSome o) (sym (get-remove outpoints_total outs at q)) (by_test (eq_by_cmp outpoint_cmp q at) (sym (get-remove outpoints_total bal at q) ∙ is)) where
      by_test : (b : Bool) → cond b None (get bal q) ≡ Some balances → IsSome (cond b None (get outs q))
      by_test true none = absurd (cc none)
      by_test false there = within q balances there

within_more : (bal : BalanceMap) (outs : Outputs) (at : OutPoint) (row : OutRow) → Within bal outs → Within bal (insert outs at row)
within_more bal outs at row within q balances is =
    subst (λ (o : Option OutRow). IsSome o) (sym (get-insert outpoints_total outs at row q)) (by_test (eq_by_cmp outpoint_cmp q at)) where
      by_test : (b : Bool) → IsSome (cond b (Some row) (get outs q))
      by_test true = refl
      by_test false = within q balances is

within_inserted : (bal : BalanceMap) (outs : Outputs) (at : OutPoint) (new : List Balance) (row : OutRow) → Within bal outs → Within (insert bal at new) (insert outs at row)
within_inserted bal outs at new row within q balances is =
    subst (λ (o : Option OutRow). IsSome o) (sym (get-insert outpoints_total outs at row q)) (by_test (eq_by_cmp outpoint_cmp q at) (sym (get-insert outpoints_total bal at new q) ∙ is)) where
      by_test : (b : Bool) → cond b (Some new) (get bal q) ≡ Some balances → IsSome (cond b (Some row) (get outs q))
      by_test true here = refl
      by_test false there = within q balances there

within_dropped : (bal : BalanceMap) (outs : Outputs) (at : OutPoint) (row : OutRow) → Within bal outs → Within (remove bal at) (insert outs at row)
within_dropped bal outs at row within q balances is =
    subst (λ (o : Option OutRow). IsSome o) (sym (get-insert outpoints_total outs at row q)) (by_test (eq_by_cmp outpoint_cmp q at) (sym (get-remove outpoints_total bal at q) ∙ is)) where
      by_test : (b : Bool) → cond b None (get bal q) ≡ Some balances → IsSome (cond b (Some row) (get outs q))
      by_test true here = refl
      by_test false there = within q balances there

within_one : (bal : BalanceMap) (outs : Outputs) (at : OutPoint) (new : List Balance) (row : OutRow) → Within bal outs → Within (with_balances bal at new) (insert outs at row)
within_one bal outs at [] row within = within_dropped bal outs at row within
within_one bal outs at (one ∷ new) row within = within_inserted bal outs at (one ∷ new) row within

within_brought : (tx place : ℕ) (inputs : List TxIn) (outs : Outputs) (taken : Taken) (bal : BalanceMap) (pool : List Balance) → take_rows tx place inputs outs ≡ Ok taken → Within bal outs
    → Within (brought_by inputs bal pool).bal taken.outs
unfolding brought_by
within_brought tx place [] outs taken bal pool is within = subst (λ (t : Taken). Within bal t.outs) (ok_same {F = Refusal} _ _ is) within
within_brought tx place (input ∷ inputs) outs taken bal pool is within =
    let row = bind_ok (or_refuse (UnknownOutput tx place input.from) (get outs input.from)) _ taken is in
    let rest = bind_ok (take_rows tx (place + 1) inputs (remove outs input.from)) _ taken row.2 in
    subst (λ (t : Taken). Within (brought_by (input ∷ inputs) bal pool).bal t.outs) (ok_same {F = Refusal} _ _ rest.2)
    (within_brought tx (place + 1) inputs (remove outs input.from) rest.0 (remove bal input.from) _ rest.1 (within_removed bal outs input.from within))

within_grown : (height : ℕ) (txid : Txid) (index : ℕ) (outputs : List TxOut) (parts : List (List ℕ)) (outs : Outputs) (bal : BalanceMap) → Within bal outs → Within bal (place_rows height txid index outputs parts outs).outs
within_grown height txid index [] parts outs bal within = within
within_grown height txid index (output ∷ outputs) [] outs bal within = within
within_grown height txid index (output ∷ outputs) (part ∷ parts) outs bal within =
    within_grown height txid (index + 1) outputs parts _ bal (within_more bal outs (record { txid = txid; index = index }) (record { script = output.script; height = height; sats = part }) within)

within_placed : (height : ℕ) (txid : Txid) (index : ℕ) (outputs : List TxOut) (parts : List (List ℕ)) (outs : Outputs) (given : List (List Balance)) (state : Runes)
    → length parts ≡ length outputs → length given ≤ length outputs → Within state.bal outs
    → Within (place_all state (placements txid index given)).bal (place_rows height txid index outputs parts outs).outs
unfolding place_all placements
within_placed height txid index outputs parts outs [] state each few within = within_grown height txid index outputs parts outs state.bal within
within_placed height txid index [] parts outs (one ∷ given) state each few within = absurd (omega (arith, few))
within_placed height txid index (output ∷ outputs) [] outs (one ∷ given) state each few within = absurd (cc each)
within_placed height txid index (output ∷ outputs) (part ∷ parts) outs (one ∷ given) state each few within =
    within_placed height txid (index + 1) outputs parts _ given (place state (record { txid = txid; index = index }, one)) (cc each) (omega (arith, few))
    (within_one state.bal outs (record { txid = txid; index = index }) one (record { script = output.script; height = height; sats = part }) within)

length-balances_from : (place : ℕ) (ids : List RuneId) (gifts : List Gift) (outputs : List TxOut) → length (balances_from place ids gifts outputs) ≡ length outputs
unfolding balances_from
length-balances_from place ids gifts [] = refl
length-balances_from place ids gifts (output ∷ outputs) = ap suc (length-balances_from (place + 1) ids gifts outputs)

-- each output gets one list
length-given : (artifact : Option Artifact) (pool : List Balance) (etching : Option RuneId) (outputs : List TxOut) → length (dealt_by artifact pool etching outputs).given ≡ length outputs
length-given None pool etching outputs = length-balances_from 0 (ids_of pool) (gifts_from pool [] None None outputs) outputs
length-given (Some (Stone stone)) pool etching outputs = length-balances_from 0 (ids_of pool) (gifts_from pool stone.edicts etching stone.pointer outputs) outputs
length-given (Some (Cenotaph mint name)) pool etching outputs = length-map outputs (λ output. [])

length-values : (outputs : List TxOut) → length (map (λ output. output.value) outputs) ≡ length outputs
length-values [] = refl
length-values (output ∷ outputs) = ap (λ (k : ℕ). suc k) (length-values outputs)

-- a transaction that did this with satoshis
record Turns (p : Profile) (height place : ℕ) (tx : Tx) (state : Runes) (spent : Spent) : Type 0 where
  moved : MovedTx
  alone : spent.moved ≡ moved ∷ []
  within : Within (turn_at p height place tx moved state).bal spent.outs
  due : (turn_at p height place tx moved state).due ≡ state.due

apart : (n : ℕ) → 0 < n → (n == 0) ≡ false
apart n more = by_test (n == 0) refl where
  by_test : (b : Bool) → (n == 0) ≡ b → (n == 0) ≡ false
  by_test true is = let none : n ≡ 0 = (Decides-eqb n 0).0 is in absurd (omega (arith, none, more))
  by_test false is = is

within_hand : (b : Bool) (inputs : List TxIn) (bal : BalanceMap) (outs : Outputs) → b ≡ false → Within (brought_by inputs bal []).bal outs
    → let brought : Brought = if b then record { pool = []; bal = bal } else brought_by inputs bal [] in Within brought.bal outs
within_hand true inputs bal outs is within = absurd (cc is)
within_hand false inputs bal outs is within = within

within_settled : (b : Bool) (mid : Runes) (due new : List Placement) (outs : Outputs) → b ≡ false → Within (place_all mid new).bal outs
    → let after : Runes = if b then record { bal = mid.bal; runes = mid.runes; due = due } else place_all mid new in Within after.bal outs
within_settled true mid due new outs is within = absurd (cc is)
within_settled false mid due new outs is within = within

due_settled : (b : Bool) (mid : Runes) (due new : List Placement) → b ≡ false
    → let after : Runes = if b then record { bal = mid.bal; runes = mid.runes; due = due } else place_all mid new in after.due ≡ mid.due
due_settled true mid due new is = absurd (cc is)
due_settled false mid due new is = place_all_due mid new

turns_by : (p : Profile) (height at_place : ℕ) (tx : Tx) (outs : Outputs) (taken : Taken) (dealt : List (List ℕ) × List ℕ) (state : Runes) → 0 < at_place → take_rows at_place 0 tx.inputs outs ≡ Ok taken
    → length dealt.0 ≡ length tx.outputs → Within state.bal outs → Turns p height at_place tx state (spent_by height tx taken dealt)
turns_by p height at_place tx outs taken dealt state behind takes each within =
    let spent = spent_by height tx taken dealt in
    let at : Spot = record { profile = p; height = height; tx = at_place; txid = txid_of tx } in
    let artifact = artifact_at at tx in
    let hand = gathered_by at tx taken.rows state artifact in
    let given = dealt_by artifact hand.pool hand.etching tx.outputs in
    let mid : Runes = record { bal = hand.bal; runes = burn given.burned hand.runes; due = state.due } in
    let new = placements (txid_of tx) 0 given.given in
    let other : (at_place == 0) ≡ false = apart at_place behind in
    let held : Within hand.bal taken.outs =
    within_hand (at_place == 0) tx.inputs state.bal taken.outs other (within_brought at_place 0 tx.inputs outs taken state.bal [] takes within) in record {
      moved = record {
        txid = txid_of tx;
        spent = taken.rows;
        joined = sats_of taken.rows;
        displaced = (place_rows height (txid_of tx) 0 tx.outputs dealt.0 taken.outs).displaced;
      };
      alone = refl;
      within = within_settled (at_place == 0) mid (state.due ++ new) new spent.outs other
          (within_placed height (txid_of tx) 0 tx.outputs dealt.0 taken.outs given.given mid each (omega (arith, length-given artifact hand.pool hand.etching tx.outputs)) held);
      due = due_settled (at_place == 0) mid (state.due ++ new) new other;
    }

spend_turns : (p : Profile) (height place : ℕ) (tx : Tx) (outs : Outputs) (spent : Spent) (state : Runes) → 0 < place → spend height place tx outs ≡ Ok spent → Within state.bal outs
    → Turns p height place tx state spent
spend_turns p height place tx outs spent state behind is within =
    let taken = bind_ok (take_rows place 0 tx.inputs outs) _ spent is in
    let dealt = bind_ok (or_refuse _ (deal (sats_of taken.0.rows) (values_of tx))) _ spent taken.2 in
    let deals = deal_keeps 0 (sats_of taken.0.rows) (values_of tx) dealt.0 (chosen _ _ _ dealt.1) in
    subst (Turns p height place tx state) (ok_same {F = Refusal} _ _ dealt.2)
    (turns_by p height place tx outs taken.0 dealt.0 state behind taken.1 (deals.each ∙ length-values tx.outputs) within)

-- transactions that did this with satoshis, and what is due is as it was
record TurnAll (p : Profile) (height place : ℕ) (txs : List Tx) (state : Runes) (spent : Spent) : Type 0 where
  within : Within (turn_all p height place txs spent.moved state).bal spent.outs
  due : (turn_all p height place txs spent.moved state).due ≡ state.due

all_turn : (p : Profile) (height place : ℕ) (txs : List Tx) (outs : Outputs) (spent : Spent) (state : Runes) → 0 < place → spend_all height place txs outs ≡ Ok spent → Within state.bal outs
    → TurnAll p height place txs state spent
unfolding turn_all
all_turn p height place [] outs spent state behind is within =
    subst (TurnAll p height place [] state) (ok_same {F = Refusal} _ _ is) (record { within = within; due = refl })
all_turn p height place (tx ∷ txs) outs spent state behind is within =
    let first = bind_ok (spend height place tx outs) _ spent is in
    let rest = bind_ok (spend_all height (place + 1) txs first.0.outs) _ spent first.2 in
    let one = spend_turns p height place tx outs first.0 state behind first.1 within in
    let next = turn_at p height place tx one.moved state in
    let more = all_turn p height (place + 1) txs first.0.outs rest.0 next (omega arith) rest.1 one.within in
    let whole : TurnAll p height place (tx ∷ txs) state
    (record { moved = one.moved ∷ rest.0.moved; lost = first.0.lost ++ rest.0.lost; fees = first.0.fees ++ rest.0.fees; outs = rest.0.outs })
    = record { within = more.within; due = more.due ∙ one.due } in
    subst (TurnAll p height place (tx ∷ txs) state) (ok_same {F = Refusal} _ _ rest.2)
    (subst
    (λ (front : List MovedTx). TurnAll p height place (tx ∷ txs) state
    (record { moved = front ++ rest.0.moved; lost = first.0.lost ++ rest.0.lost; fees = first.0.fees ++ rest.0.fees; outs = rest.0.outs }))
    (sym one.alone) whole)

pub stay_within : (p : Profile) (height : ℕ) (coinbase : Tx) (txs : List Tx) (outs : Outputs) (after : Transferred) (bal : BalanceMap) (runes : List RuneRow)
    → transfer_of p height (coinbase ∷ txs) outs ≡ Ok after → Within bal outs
    → Within (runes_after p height (coinbase ∷ txs) after.moved.txs (record { bal = bal; runes = runes; due = [] })).bal after.outs
unfolding turn_all
stay_within p height coinbase txs outs after bal runes is within =
    let spent = bind_ok (spend_all height 1 txs outs) _ after is in
    let dealt = bind_ok (or_refuse _ (deal (claimable_sats p height spent.0.fees) (values_of coinbase))) _ after spent.2 in
    let deals = deal_keeps 0 (claimable_sats p height spent.0.fees) (values_of coinbase) dealt.0 (chosen _ _ _ dealt.1) in
    let txid = txid_of coinbase in
    let state : Runes = record { bal = bal; runes = runes; due = [] } in
    let displaced = (place_rows height txid 0 coinbase.outputs dealt.0.0 spent.0.outs).displaced in
    let moved : MovedTx = record { txid = txid; spent = []; joined = []; displaced = displaced } in
    let at : Spot = record { profile = p; height = height; tx = 0; txid = txid } in
    let artifact = artifact_at at coinbase in
    let hand = gathered_by at coinbase [] state artifact in
    let given = dealt_by artifact hand.pool hand.etching coinbase.outputs in
    let first = turn_at p height 0 coinbase moved state in
    let all = all_turn p height 1 txs outs spent.0 first (omega arith) spent.1 within in
    let last = turn_all p height 1 txs spent.0.moved first in
    let placed : Within (place_all (undue last) (placements txid 0 given.given)).bal (place_rows height txid 0 coinbase.outputs dealt.0.0 spent.0.outs).outs =
    within_placed height txid 0 coinbase.outputs dealt.0.0 spent.0.outs given.given (undue last) (deals.each ∙ length-values coinbase.outputs)
    (omega (arith, length-given artifact hand.pool hand.etching coinbase.outputs)) all.within in
    subst (λ (t : Transferred). Within (runes_after p height (coinbase ∷ txs) t.moved.txs state).bal t.outs) (ok_same {F = Refusal} _ _ dealt.2)
    (subst (λ (due : List Placement). Within (place_all (undue last) due).bal (place_rows height txid 0 coinbase.outputs dealt.0.0 spent.0.outs).outs) (sym all.due) placed)

-- ---- the start

first_below : (p : Profile) (b : Bool) → p.first_rune ≡ b → AllByRecursion (IsOfChain p 0) (if b then first_rune ∷ [] else [])
first_below p true is = (comes_to p 0 first_rune (inr (is, refl)), tt)
first_below p false is = tt

pub runes_first : (p : Profile) (index : Index) → index.hashes ≡ [] → index.bal ≡ (no_runes p).bal → index.runes ≡ (no_runes p).runes → SoundRunes p index
runes_first p index none no_balances first = record {
  balanced = subst Balanced (λ i. record { bal = sym no_balances i; runes = sym first i; due = [] }) (start_balanced p);
  below = rw (none, first) (All-from_recursion (IsOfChain p 0) (no_runes p).runes (first_below p p.first_rune refl));
  placed = λ at balances is. absurd (cc (sym (get-empty outpoint_cmp at) ∙ ap (λ (bal : BalanceMap). get bal at) (sym no_balances) ∙ is));
}
