-- A rune that is etched is new: nothing was amount_held_in of it, and it isn't minted.
use Rattle.std.proofs.Common.{◌≡◌, ◌≢◌, ◌∙◌, ℕ, zero, suc, Bool, true, false, cond, T, List, [], ◌∷◌, map, refl, sym, ap, subst, arith, Option, Some, None, Ordering, ◌≤◌, length}
use Rattle.std.proofs.lemmas.Bool.{ltb-false}
use Rattle.ox_runestone.specs.Artifact.{artifact_of}
use Rattle.std.specs.Prelude.{◌&&◌, option_and_then, if◌then◌else◌, nat_lt}
use Rattle.std.specs.List.{AllByRecursion}
use Rattle.std.specs.Option.{option_map, option_map_or}
use Rattle.std.specs.Ordering.{is_eq, is_lt}
use Rattle.std.specs.declared.cmp.Ordering.TheVariants.{Less, Equal, Greater}
use Rattle.std.specs.Cmp.{tied_itself}
use Rattle.std.specs.FinMap.{entries, entries_sorted, find, get, get-entries, is_sorted}
use Rattle.std.specs.FinMap.Entries.{below_all}
use Rattle.std.proofs.lemmas.List.Elements.{All-contains, recursion_from_All}
use Rattle.ox_block.specs.declared.block.OutPoint.{OutPoint}
use Rattle.ox_runestone.specs.declared.stone.RuneId.{RuneId}
use Rattle.ox_block.specs.declared.block.Tx.{Tx}
use Rattle.ox_runestone.specs.declared.stone.Artifact.{Artifact}
use Rattle.ox_rules.specs.Transfer.{as_list}
use Rattle.ox_rules.specs.declared.rows.OutRow.{OutRow}
use Rattle.ox_rules.proofs.MapSums.{total}
use Rattle.ox_rules.proofs.Orders.{outpoints_total, outpoints_exact}
use Rattle.ox_rules.specs.Outputs.{outpoint_cmp}
use Rattle.ox_allocation.specs.Balances.{Balance, amount_in, is_same}
use Rattle.ox_allocation.proofs.Ids.{same_id, same_turned}
use Rattle.ox_etching.specs.declared.spot.Spot.{Spot}
use Rattle.ox_etching.specs.Etched.{etched, etching_of, id_of, name_of, row_of, row_where}
use Rattle.ox_etching.specs.Minted.{minted}
use Rattle.ox_etching.specs.declared.row.RuneRow.{RuneRow}
use Rattle.ox_ledger.specs.Balanced.{AreKnown, Balanced}
use Rattle.ox_ledger.specs.Runes.{BalanceMap, Placement, Runes, artifact_at, by_id, etching_by, is_taken, mint_at, mint_by, mint_of, name_of as name_in, stone_in}
use Rattle.ox_ledger.specs.Turn.{IsFree, NoneHas}
use Rattle.ox_ledger.proofs.ByIds.{found_row}
use Rattle.ox_ledger.proofs.Held.{amount_held-cons, amount_of, amount_held_in, total_is}
use Rattle.ox_ledger.proofs.Brought.{AllRise}
use Rattle.ox_ledger.proofs.Gains.{amount_placed}
use Rattle.ox_ledger.proofs.TurnLemmas.{AllFresh, IsFresh, IsOther, one_balance}

-- ---- of a rune that no row is of, nothing is amount_held_in

zero_from_not : (n : ℕ) → (n ≢ 0 → ⊥) → n ≡ 0
zero_from_not zero none = refl
zero_from_not (suc n) none = absurd (none (λ is. absurd (omega arith)))

first_of_two : (a b : Bool) → T (a && b) → T a
first_of_two true b p = tt
first_of_two false b p = absurd p

second_of_two : (a b : Bool) → T (a && b) → T b
second_of_two true b p = p
second_of_two false b p = absurd p

less : (r : Ordering) → T (is_lt r) → r ≡ Less
less Less p = refl
less Equal p = absurd p
less Greater p = absurd p

equal : (r : Ordering) → is_eq r ≡ true → r ≡ Equal
equal Less p = absurd (cc p)
equal Equal p = refl
equal Greater p = absurd (cc p)

abbrev Entries : Type 0
Entries = List (OutPoint × List Balance)

not_behind : (k : OutPoint) (es : Entries) → T (below_all outpoint_cmp k es) → find outpoint_cmp k es ≡ None
not_behind k [] below = refl
not_behind k (e ∷ es) below =
    let after : outpoint_cmp k e.0 ≡ Less = less _ (first_of_two _ _ below) in
    ap (λ r. cond (is_eq r) (Some e.1) (find outpoint_cmp k es)) after ∙ not_behind k es (second_of_two _ _ below)

-- what is found behind an entry is found with it
found_on : (e : OutPoint × List Balance) (es : Entries) (q : OutPoint) (balances : List Balance) → T (below_all outpoint_cmp e.0 es)
    → find outpoint_cmp q es ≡ Some balances → find outpoint_cmp q (e ∷ es) ≡ Some balances
found_on e es q balances below there = by_test (is_eq (outpoint_cmp q e.0)) refl where
  by_test : (b : Bool) → is_eq (outpoint_cmp q e.0) ≡ b → cond b (Some e.1) (find outpoint_cmp q es) ≡ Some balances
  by_test true is =
      let same : q ≡ e.0 = outpoints_exact q e.0 (equal _ is) in
      let none : None ≡ Some balances = sym (ap (λ k. find outpoint_cmp k es) same ∙ not_behind e.0 es below) ∙ there in
      absurd (cc none)
  by_test false is = there

no_total : (f : List Balance → ℕ) (es : Entries) → T (is_sorted outpoint_cmp es)
    → ((q : OutPoint) (balances : List Balance) → find outpoint_cmp q es ≡ Some balances → f balances ≡ 0) → total outpoints_total f es ≡ 0
no_total f [] sorted none = refl
no_total f (e ∷ es) sorted none =
    let first : f e.1 ≡ 0 = none e.0 e.1 (ap (λ r. cond (is_eq r) (Some e.1) (find outpoint_cmp e.0 es)) (tied_itself outpoints_total e.0)) in
    let rest : total outpoints_total f es ≡ 0 = no_total f es (second_of_two (below_all outpoint_cmp e.0 es) (is_sorted outpoint_cmp es) sorted) (λ q balances there. none q balances (found_on e es q balances (first_of_two (below_all outpoint_cmp e.0 es) (is_sorted outpoint_cmp es) sorted) there)) in
    omega (arith, first, rest)

pub none_held : (bal : BalanceMap) (id : RuneId) → ((at : OutPoint) (balances : List Balance) → get bal at ≡ Some balances → amount_in balances id ≡ 0) → amount_held_in bal id ≡ 0
none_held bal id none =
    total_is (entries bal) id
    ∙ no_total (amount_of id) (entries bal) (entries_sorted bal) (λ q balances there. none q balances (get-entries bal q ∙ there))

none_known : (runes : List RuneRow) (balances : List Balance) (id : RuneId) → AreKnown runes balances → NoneHas id runes → amount_in balances id ≡ 0
none_known runes balances id known none = zero_from_not (amount_in balances id) (λ some.
    let row = found_row runes id (known.known id some) in All-contains (λ (row : RuneRow). row.id ≢ id) runes row.0 none row.1 row.2)

none_held_of : (state : Runes) (id : RuneId) → Balanced state → NoneHas id state.runes → amount_held_in state.bal id ≡ 0
none_held_of state id balanced none = none_held state.bal id (λ at balances there. none_known state.runes balances id (balanced.held at balances there).1 none)

none_due : (runes : List RuneRow) (due : List Placement) (id : RuneId) → AllByRecursion (λ (new : Placement). AreKnown runes new.1) due → NoneHas id runes → amount_placed due id ≡ 0
none_due runes [] id known none = refl
none_due runes (new ∷ due) id known none =
    let first : amount_in new.1 id ≡ 0 = none_known runes new.1 id known.0 none in
    let rest : amount_placed due id ≡ 0 = none_due runes due id known.1 none in
    let sums = amount_held-cons new.1 (map (λ one. one.1) due) id in
    omega (arith, first, rest, sums)

none_due_of : (state : Runes) (id : RuneId) → Balanced state → NoneHas id state.runes → amount_placed state.due id ≡ 0
none_due_of state id balanced none = none_due state.runes state.due id (recursion_from_All (λ (new : Placement). AreKnown state.runes new.1) state.due balanced.due) none

-- ---- a rune that no row is of isn't minted

pub differ : (a b : RuneId) → a ≢ b → is_same a b ≡ false
differ a b other = by_test (is_same a b) refl where
  by_test : (c : Bool) → is_same a b ≡ c → c ≡ false
  by_test true is = absurd (other (same_id a b is))
  by_test false is = refl

pub some_then : {A B : Type 0} (f : A → Option B) (there : Option A) (b : B) → option_and_then f there ≡ Some b → (a : A) × (there ≡ Some a) × (f a ≡ Some b)
some_then f None b is = let none : None ≡ Some b = is in absurd (cc none)
some_then f (Some a) b is = (a, refl, is)

pub some_mapped : {A B : Type 0} (f : A → B) (there : Option A) (b : B) → option_map f there ≡ Some b → (a : A) × (there ≡ Some a) × (f a ≡ b)
some_mapped f None b is = let none : None ≡ Some b = is in absurd (cc none)
some_mapped f (Some a) b is = let some : Some (f a) ≡ Some b = is in (a, refl, cc some)

none_by_id : (runes : List RuneRow) (id : RuneId) → AllByRecursion (λ (row : RuneRow). row.id ≢ id) runes → by_id runes id ≡ None
unfolding by_id
none_by_id [] id none = refl
none_by_id (row ∷ runes) id none =
    ap (λ (b : Bool). if b then Some row else by_id runes id) (differ row.id id none.0) ∙ none_by_id runes id none.1

-- the mint of a rune without a row gives nothing
pub none_minted : (height : ℕ) (runes : List RuneRow) (id : Option RuneId) (etched : RuneId) → AllByRecursion (λ (row : RuneRow). row.id ≢ etched) runes
    → amount_in (as_list (mint_at height runes id)) etched ≡ 0
none_minted height runes None etched none = refl
none_minted height runes (Some id) etched none = by_mint (mint_at height runes (Some id)) refl where
  by_mint : (mint : Option Balance) → mint_at height runes (Some id) ≡ mint → amount_in (as_list mint) etched ≡ 0
  by_mint None is = refl
  by_mint (Some mint) is =
      let there = some_mapped (λ (amount : ℕ). (id, amount)) (option_and_then (λ row. minted row height) (by_id runes id)) mint is in
      let found = some_then (λ row. minted row height) (by_id runes id) there.0 there.1 in
      let other : id ≢ etched = λ same.
      let none_there : None ≡ Some found.0 = sym (none_by_id runes id (subst (λ (k : RuneId). AllByRecursion (λ (row : RuneRow). row.id ≢ k) runes) (sym same) none)) ∙ found.1 in
      absurd (cc none_there) in
      let mint_id : id ≡ mint.0 = ap (λ (m : Balance). m.0) there.2 in
      one_balance mint etched ∙ ap (λ (b : Bool). if b then mint.1 else 0) (ap (λ (k : RuneId). is_same k etched) (sym mint_id) ∙ differ id etched other)

-- ---- a rune that is etched

-- the row of an etching
pub record IsRow (at : Spot) (row : RuneRow) : Type 0 where
  pub id : row.id ≡ id_of at
  pub mints : row.mints ≡ 0
  pub burned : row.burned ≡ 0

pub etched_row : (at : Spot) (tx : Tx) (spent : List OutRow) (artifact : Artifact) (taken : Bool) (row : RuneRow) → etched at tx spent artifact taken ≡ Some row → IsRow at row
etched_row at tx spent artifact taken row is =
    let what = some_then (row_where at tx spent taken) (etching_of artifact) row is in
    let named = some_mapped (row_of (id_of at) at.txid what.0) (name_of at tx spent taken what.0.name) row what.2 in
    record {
      id = sym (ap (λ (r : RuneRow). r.id) named.2);
      mints = sym (ap (λ (r : RuneRow). r.mints) named.2);
      burned = sym (ap (λ (r : RuneRow). r.burned) named.2);
    }

pub etching_row : (at : Spot) (tx : Tx) (spent : List OutRow) (runes : List RuneRow) (artifact : Option Artifact) (row : RuneRow)
    → etching_by at tx spent runes artifact ≡ Some row → IsRow at row
etching_row at tx spent runes artifact row is =
    let there = some_then (λ a. etched at tx spent a (option_map_or (is_taken runes) (name_in a) false)) artifact row is in
    etched_row at tx spent there.0 (option_map_or (is_taken runes) (name_in there.0) false) row there.2

pub fresh : (at : Spot) (state : Runes) (artifact : Option Artifact) (row : RuneRow) → Balanced state → NoneHas (id_of at) state.runes → IsRow at row
    → IsFresh state (mint_by at.height state.runes artifact) row
fresh at state artifact row balanced none is =
    let none_of : NoneHas row.id state.runes = subst (λ (id : RuneId). NoneHas id state.runes) (sym is.id) none in
    record {
      held_before = none_held_of state row.id balanced none_of;
      due = none_due_of state row.id balanced none_of;
      minted_before = none_minted at.height state.runes (option_and_then mint_of artifact) row.id (recursion_from_All (λ (r : RuneRow). r.id ≢ row.id) state.runes none_of);
      mints = is.mints;
      burned = is.burned;
    }

others : (etched : RuneRow) (runes : List RuneRow) → AllByRecursion (λ (r : RuneRow). r.id ≢ etched.id) runes → AllByRecursion (IsOther (Some etched)) runes
others etched [] none = tt
others etched (row ∷ runes) none = (same_turned etched.id row.id ∙ differ row.id etched.id none.0, others etched runes none.1)

no_others : (runes : List RuneRow) → AllByRecursion (IsOther None) runes
no_others [] = tt
no_others (row ∷ runes) = (tt, no_others runes)

-- where a transaction etches, no rune has the id of its place
abbrev pub IsFreeFor : Spot → Option RuneRow → List RuneRow → Type 0
IsFreeFor at None runes = Unit {0}
IsFreeFor at (Some row) runes = NoneHas (id_of at) runes

-- a runestone is read from the height on at which runes start
started : (at : Spot) (tx : Tx) (artifact : Artifact) → artifact_at at tx ≡ Some artifact → at.profile.rune_start ≤ at.height
started at tx artifact is = by_test (nat_lt at.height at.profile.rune_start) refl is where
  by_test : (b : Bool) → nat_lt at.height at.profile.rune_start ≡ b
      → (if b then None else option_map (λ script. artifact_of script (length tx.outputs)) (stone_in tx.outputs)) ≡ Some artifact → at.profile.rune_start ≤ at.height
  by_test true below given = let none : None ≡ Some artifact = given in absurd (cc none)
  by_test false above given = ltb-false at.height at.profile.rune_start above

free_by : (at : Spot) (tx : Tx) (spent : List OutRow) (runes : List RuneRow) → IsFree at runes → (etching : Option RuneRow)
    → etching_by at tx spent runes (artifact_at at tx) ≡ etching → IsFreeFor at etching runes
free_by at tx spent runes free None is = tt
free_by at tx spent runes free (Some row) is =
    let there = some_then (λ a. etched at tx spent a (option_map_or (is_taken runes) (name_in a) false)) (artifact_at at tx) row is in
    free (started at tx there.0 there.1)

pub free_for : (at : Spot) (tx : Tx) (spent : List OutRow) (runes : List RuneRow) → IsFree at runes → IsFreeFor at (etching_by at tx spent runes (artifact_at at tx)) runes
free_for at tx spent runes free = free_by at tx spent runes free (etching_by at tx spent runes (artifact_at at tx)) refl

pub all_other : (at : Spot) (state : Runes) (etching : Option RuneRow) → IsFreeFor at etching state.runes → ((row : RuneRow) → etching ≡ Some row → IsRow at row)
    → AllByRecursion (IsOther etching) state.runes
all_other at state None none rows = no_others state.runes
all_other at state (Some row) none rows =
    others row state.runes (recursion_from_All (λ (r : RuneRow). r.id ≢ row.id) state.runes (subst (λ (id : RuneId). NoneHas id state.runes) (sym (rows row refl).id) none))

pub all_fresh : (at : Spot) (state : Runes) (artifact : Option Artifact) (etching : Option RuneRow) → Balanced state → IsFreeFor at etching state.runes
    → ((row : RuneRow) → etching ≡ Some row → IsRow at row) → AllFresh state (mint_by at.height state.runes artifact) etching
all_fresh at state artifact None balanced none rows = tt
all_fresh at state artifact (Some row) balanced none rows = fresh at state artifact row balanced none (rows row refl)

pub all_rise : (state : Runes) → Balanced state → AllRise state.bal
all_rise state balanced at balances there = (balanced.held at balances there).1.proper.rising
