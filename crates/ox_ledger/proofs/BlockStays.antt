-- A block leaves a balanced state balanced, and nothing due.
use Rattle.std.proofs.Common.{◌≡◌, ◌≢◌, ◌∙◌, ℕ, ◌+◌, ◌*◌, ◌^◌, ◌<◌, ◌≤◌, List, [], ◌∷◌, ◌++◌, length, map, refl, sym, ap, subst, arith, Option, Some, None}
use Rattle.std.specs.Prelude.{All}
use Rattle.std.specs.List.{AllByRecursion, AllZip}
use Rattle.std.proofs.lemmas.List.Elements.{All-from_recursion, recursion_from_All}
use Rattle.ox_block.specs.declared.block.Tx.{Tx}
use Rattle.ox_runestone.specs.declared.stone.RuneId.{RuneId}
use Rattle.ox_sat.specs.declared.profiles.Profile.{Profile}
use Rattle.ox_rules.specs.Transfer.{as_list}
use Rattle.ox_rules.specs.declared.moved.MovedTx.{MovedTx}
use Rattle.ox_allocation.specs.Laws.{NothingIsLostOrMade}
use Rattle.ox_etching.specs.declared.spot.Spot.{Spot}
use Rattle.ox_etching.specs.Etched.{id_of}
use Rattle.ox_etching.specs.declared.row.RuneRow.{RuneRow}
use Rattle.ox_ledger.specs.Balanced.{AreKnown, Balanced, IsBounded, IsSettled, amount_per_mint}
use Rattle.ox_ledger.specs.Block.{runes_after, turn_all, turn_at}
use Rattle.ox_ledger.specs.Runes.{Placement, Runes, artifact_at, end, etching_by, mint_by}
use Rattle.ox_ledger.specs.Turn.{IsFree, TurnAdds}
use Rattle.ox_ledger.proofs.Distinct.{HasNoDouble, distinct_of, no_double_of, same_after}
use Rattle.ox_ledger.proofs.Fresh.{etching_row}
use Rattle.ox_ledger.proofs.Gains.{AllGain, Gains, amount_placed, place_all_gains}
use Rattle.ox_ledger.proofs.Known.{Holds, ids_in, knows_to, place_all_due, place_all_holds}
use Rattle.ox_ledger.proofs.StaysBalanced.{due_from, holds_from, stays_balanced}
use Rattle.ox_ledger.proofs.TurnsAdd.{turn_adds}

-- ---- the end of a block

gained_same : {A : Type 0} (of : RuneRow → A) → ((row : RuneRow) (n : ℕ) → of (record row { burned = n }) ≡ of row) → (gain : RuneId → ℕ) (before after : Runes) (xs zs : List RuneRow)
    → AllZip (Gains gain before after) xs zs → map of zs ≡ map of xs
gained_same of still gain before after [] [] gains = refl
gained_same of still gain before after [] (z ∷ zs) gains = absurd gains
gained_same of still gain before after (x ∷ xs) [] gains = absurd gains
gained_same of still gain before after (x ∷ xs) (z ∷ zs) gains =
    let first = ap of gains.0.stays ∙ still x z.burned in
    let rest = gained_same of still gain before after xs zs gains.1 in
    λ i. first i ∷ rest i

all_gained : (P Q : RuneRow → Type 0) (gain : RuneId → ℕ) (before after : Runes) → ((x z : RuneRow) → Gains gain before after x z → P x → Q z) → (xs zs : List RuneRow)
    → AllZip (Gains gain before after) xs zs → AllByRecursion P xs → AllByRecursion Q zs
all_gained P Q gain before after step [] [] gains all = tt
all_gained P Q gain before after step [] (z ∷ zs) gains all = absurd gains
all_gained P Q gain before after step (x ∷ xs) [] gains all = absurd gains
all_gained P Q gain before after step (x ∷ xs) (z ∷ zs) gains all = (step x z gains.0 all.0, all_gained P Q gain before after step xs zs gains.1 all.1)

burned_bounded : (row : RuneRow) (n : ℕ) → IsBounded row → IsBounded (record row { burned = n })
burned_bounded row n bounded = record {
  place = bounded.place;
  divisibility = bounded.divisibility;
  spacers = bounded.spacers;
  reserved = bounded.reserved;
  supply = bounded.supply;
  mints = bounded.mints;
}

abbrev undue : Runes → Runes
undue state = record { bal = state.bal; runes = state.runes; due = [] }

settled_end : (state : Runes) (x z : RuneRow) → Gains (amount_placed state.due) (undue state) (end state) x z → IsSettled state x → IsSettled (end state) z
settled_end state x z gains settled =
    let premine : z.premine ≡ x.premine = ap (λ (r : RuneRow). r.premine) gains.stays in
    let mints : z.mints * amount_per_mint z.terms ≡ x.mints * amount_per_mint x.terms = ap (λ (r : RuneRow). r.mints * amount_per_mint r.terms) gains.stays in
    let amount = gains.amount in
    omega (arith, premine, mints, amount, settled)

pub end_balanced : (state : Runes) → Balanced state → Balanced (end state)
end_balanced state balanced =
    let gains : AllGain (amount_placed state.due) (undue state) (end state) = place_all_gains (undue state) state.due in
    let ids : ids_in (end state).runes ≡ ids_in state.runes = gained_same (λ (r : RuneRow). r.id) (λ row n. refl) (amount_placed state.due) (undue state) (end state) state.runes (end state).runes gains in
    let names : map (λ (r : RuneRow). r.name) (end state).runes ≡ map (λ (r : RuneRow). r.name) state.runes =
    gained_same (λ (r : RuneRow). r.name) (λ row n. refl) (amount_placed state.due) (undue state) (end state) state.runes (end state).runes gains in
    let known = recursion_from_All (λ (new : Placement). AreKnown state.runes new.1) state.due balanced.due in
    let holds : Holds (ids_in state.runes) (end state).bal = place_all_holds (ids_in state.runes) (undue state) state.due (holds_from state balanced) (due_from state.runes state.due known) in
    let holds_end : Holds (ids_in (end state).runes) (end state).bal = subst (λ (all : List RuneId). Holds all (end state).bal) (sym ids) holds in
    let none : (end state).due ≡ [] = place_all_due (undue state) state.due in
    record {
      ids = distinct_of (λ (r : RuneRow). r.id) (end state).runes (subst (λ (all : List RuneId). HasNoDouble all) (sym ids) (no_double_of (λ (r : RuneRow). r.id) state.runes balanced.ids));
      names = distinct_of (λ (r : RuneRow). r.name) (end state).runes (subst (λ (all : List ℕ). HasNoDouble all) (sym names) (no_double_of (λ (r : RuneRow). r.name) state.runes balanced.names));
      bounded = All-from_recursion IsBounded (end state).runes
          (all_gained IsBounded IsBounded (amount_placed state.due) (undue state) (end state)
          (λ x z gain bounded. subst IsBounded (sym gain.stays) (burned_bounded x z.burned bounded)) state.runes (end state).runes gains
          (recursion_from_All IsBounded state.runes balanced.bounded));
      held = λ at balances there. let was = holds_end at balances there in (was.0, knows_to (end state).runes balances was.1);
      due = subst (λ (all : List Placement). All (λ (new : Placement). AreKnown (end state).runes new.1) all) (sym none)
          (All-from_recursion (λ (new : Placement). AreKnown (end state).runes new.1) [] tt);
      settled = All-from_recursion (IsSettled (end state)) (end state).runes
          (all_gained (IsSettled state) (IsSettled (end state)) (amount_placed state.due) (undue state) (end state) (settled_end state) state.runes (end state).runes gains
          (recursion_from_All (IsSettled state) state.runes balanced.settled));
    }

-- ---- the transactions of a block

-- the runes of this height were etched before this place
abbrev Before : ℕ → ℕ → RuneId → Type 0
Before height place id = id.block ≡ height → id.tx < place

all_before : (P : RuneId → Type 0) (runes : List RuneRow) → AllByRecursion P (ids_in runes) → AllByRecursion (λ (row : RuneRow). P row.id) runes
all_before P [] all = tt
all_before P (row ∷ runes) all = (all.0, all_before P runes all.1)

none_has : (p : Spot) (runes : List RuneRow) → AllByRecursion (Before p.height p.tx) (ids_in runes) → AllByRecursion (λ (row : RuneRow). row.id ≢ id_of p) runes
none_has p [] all = tt
none_has p (row ∷ runes) all = (
  λ same. let below : row.id.tx < p.tx = all.0 (ap (λ (id : RuneId). id.block) same) in let tx : row.id.tx ≡ p.tx = ap (λ (id : RuneId). id.tx) same in absurd (omega arith),
  none_has p runes all.1,
)

later : (height place : ℕ) (ids : List RuneId) → AllByRecursion (Before height place) ids → AllByRecursion (Before height (place + 1)) ids
later height place [] all = tt
later height place (id ∷ ids) all = ((λ same. let below : id.tx < place = all.0 same in omega arith), later height place ids all.1)

ids_append : (P : RuneId → Type 0) (xs ys : List RuneId) → AllByRecursion P xs → AllByRecursion P ys → AllByRecursion P (xs ++ ys)
ids_append P [] ys first second = second
ids_append P (x ∷ xs) ys first second = (first.0, ids_append P xs ys first.1 second)

new_before : (at : Spot) (etching : Option RuneRow) → ((row : RuneRow) → etching ≡ Some row → row.id ≡ id_of at) → AllByRecursion (Before at.height (at.tx + 1)) (ids_in (as_list etching))
new_before at None rows = tt
new_before at (Some row) rows = ((λ same. let tx : row.id.tx ≡ at.tx = ap (λ (id : RuneId). id.tx) (rows row refl) in omega arith), tt)

all_balanced : NothingIsLostOrMade → (p : Profile) (height place : ℕ) (txs : List Tx) (moved : List MovedTx) (state : Runes) → place + length txs ≤ 2 ^ 32 → Balanced state
    → (p.rune_start ≤ height → AllByRecursion (Before height place) (ids_in state.runes)) → Balanced (turn_all p height place txs moved state)
unfolding turn_all
all_balanced keeps p height place [] moved state room balanced all = balanced
all_balanced keeps p height place (tx ∷ txs) [] state room balanced all = balanced
all_balanced keeps p height place (tx ∷ txs) (one ∷ moved) state room balanced all =
    let at : Spot = record { profile = p; height = height; tx = place; txid = one.txid } in
    let none : IsFree at state.runes = λ start. All-from_recursion (λ (row : RuneRow). row.id ≢ id_of at) state.runes (none_has at state.runes (all start)) in
    let after = turn_at p height place tx one state in
    let artifact = artifact_at at tx in
    let etching = etching_by at tx one.spent state.runes artifact in
    let adds : TurnAdds at tx one.spent state after = turn_adds keeps at tx one.spent state balanced none in
    let ids : ids_in after.runes ≡ ids_in state.runes ++ ids_in (as_list etching) =
    same_after (λ (r : RuneRow). r.id) (λ row n m. refl) (mint_by height state.runes artifact) etching state after adds in
    let next : p.rune_start ≤ height → AllByRecursion (Before height (place + 1)) (ids_in after.runes) = λ start.
    subst (λ (all : List RuneId). AllByRecursion (Before height (place + 1)) all) (sym ids)
    (ids_append (Before height (place + 1)) (ids_in state.runes) (ids_in (as_list etching)) (later height place (ids_in state.runes) (all start))
    (new_before at etching (λ row is. (etching_row at tx one.spent state.runes artifact row is).id))) in
    all_balanced keeps p height (place + 1) txs moved after (omega arith)
    (stays_balanced keeps at tx one.spent state (omega arith) balanced none) next

none_of_height : (height : ℕ) (runes : List RuneRow) → AllByRecursion (λ (row : RuneRow). row.id.block ≢ height) runes → AllByRecursion (Before height 0) (ids_in runes)
none_of_height height [] all = tt
none_of_height height (row ∷ runes) all = ((λ same. absurd (all.0 same)), none_of_height height runes all.1)

pub block_balanced : NothingIsLostOrMade → (p : Profile) (height : ℕ) (txs : List Tx) (moved : List MovedTx) (state : Runes) → length txs ≤ 2 ^ 32 → Balanced state
    → (p.rune_start ≤ height → All (λ (row : RuneRow). row.id.block ≢ height) state.runes) → Balanced (runes_after p height txs moved state)
block_balanced keeps p height txs moved state room balanced none =
    end_balanced (turn_all p height 0 txs moved state) (all_balanced keeps p height 0 txs moved state (omega arith) balanced
    (λ start. none_of_height height state.runes (recursion_from_All (λ (row : RuneRow). row.id.block ≢ height) state.runes (none start))))

pub nothing_due : (p : Profile) (height : ℕ) (txs : List Tx) (moved : List MovedTx) (state : Runes) → (runes_after p height txs moved state).due ≡ []
nothing_due p height txs moved state = place_all_due (undue (turn_all p height 0 txs moved state)) (turn_all p height 0 txs moved state).due
