-- A row's parents are the ids that its envelope names and whose first row stood on a satoshi of the transaction's inputs, each once.
use Rattle.std.proofs.Common.{◌≡◌, ◌≢◌, ◌∙◌, ℕ, Bool, true, false, cond, List, [], ◌∷◌, refl, sym, ap, subst, arith, Option, Some, None}
use Rattle.std.specs.Prelude.{◌==◌, ◌||◌, not, All, Contains, filter, slice_get, option_and_then, bytes_eq}
use Rattle.std.specs.Option.{option_map_or}
use Rattle.std.specs.Cmp.{IsEquivalence, nat_eq_equiv}
use Rattle.std.specs.Bool.{Decides}
use Rattle.std.specs.List.{AllPairs, list_any}
use Rattle.std.proofs.lemmas.Bool.{true≢false, not-true, or_left, or_right, eqb-true, false_from_ne_true, not_from_false}
use Rattle.std.proofs.lemmas.Bool.Decides.{Decides-and, Decides-eqb, Decides-like, same_from_decides}
use Rattle.std.proofs.lemmas.List.Elements.{All-nil, All-cons, All-weaker, All-filter, filter_passes, Contains-append_right, Contains-get_or}
use Rattle.std.proofs.lemmas.List.Kept.{AllPairs-cons, AllPairs-filter}
use Rattle.std.proofs.lemmas.Map.Views.{list_any-from_Contains, Contains-from_any}
use Rattle.std.proofs.lemmas.Slice.Eq.{bytes_eq-Decides}
use Rattle.ox_block.specs.declared.block.Tx.{Tx}
use Rattle.ox_envelope.specs.declared.id.InsId.{InsId}
use Rattle.ox_envelope.specs.declared.inscribed.Inscribed.{Inscribed}
use Rattle.ox_rules.specs.Outputs.{sats_of}
use Rattle.ox_rules.specs.declared.moved.MovedTx.{MovedTx}
use Rattle.ox_inscribe.specs.Inscriptions.{is_same_id, find}
use Rattle.ox_inscribe.specs.Origins.{Origin, rows_before, IsParent, HasParents}
use Rattle.ox_inscribe.specs.Reveal.{each_once, stands_among}
use Rattle.ox_inscribe.specs.declared.row.InsRow.{InsRow}
use Rattle.ox_inscribe.proofs.PlaceLaws.{IsNew}

-- ---- ids

same_parts : (a b : InsId) → (a.txid ≡ b.txid) × (a.index ≡ b.index) → a ≡ b
same_parts a b same =
    ap (λ (t : List ℕ). record { txid = t; index = a.index }) same.0 ∙ ap (λ (i : ℕ). record { txid = b.txid; index = i }) same.1

parts_same : (a b : InsId) → a ≡ b → (a.txid ≡ b.txid) × (a.index ≡ b.index)
parts_same a b same = (ap (λ (id : InsId). id.txid) same, ap (λ (id : InsId). id.index) same)

pub ids_decide : (a b : InsId) → Decides (is_same_id a b) (a ≡ b)
ids_decide a b =
    Decides-like (is_same_id a b) (same_parts a b) (parts_same a b)
    (Decides-and (bytes_eq a.txid b.txid) (a.index == b.index) (bytes_eq-Decides a.txid b.txid) (Decides-eqb a.index b.index))

apart : (a b : InsId) → a ≢ b → is_same_id a b ≡ false
apart a b differ = false_from_ne_true (is_same_id a b) (λ same. differ ((ids_decide a b).0 same))

-- ---- each once

each_apart : (ids : List InsId) → AllPairs (λ (one other : InsId). one ≢ other) (each_once ids)
unfolding each_once
each_apart [] = λ i j d below within. absurd (omega arith)
each_apart (id ∷ ids) =
    AllPairs-cons (λ (one other : InsId). one ≢ other) id _
    (All-weaker (λ (other : InsId). not (is_same_id id other) ≡ true) (λ (other : InsId). id ≢ other)
    (λ other other_is same. true≢false (sym ((ids_decide id other).1 same) ∙ not-true _ other_is)) _
    (filter_passes (λ (other : InsId). not (is_same_id id other)) (each_once ids)))
    (AllPairs-filter (λ (one other : InsId). one ≢ other) (λ (other : InsId). not (is_same_id id other)) (each_once ids) (each_apart ids))

all_named : (ids : List InsId) → All (λ (id : InsId). Contains ids id) (each_once ids)
unfolding each_once
all_named [] = All-nil (λ (id : InsId). Contains [] id)
all_named (id ∷ ids) =
    All-cons (λ (one : InsId). Contains (id ∷ ids) one) id _ (Contains-get_or (id ∷ ids) 0 id (omega arith))
    (All-weaker (λ (one : InsId). Contains ids one) (λ (one : InsId). Contains (id ∷ ids) one) (λ one there. Contains-append_right (id ∷ []) ids one there) _
    (All-filter (λ (other : InsId). not (is_same_id id other)) (λ (one : InsId). Contains ids one) (each_once ids) (all_named ids)))

-- a list has it, as a test
abbrev has : InsId → List InsId → Bool
has id ids = list_any (is_same_id id) ids

kept_if : (test : InsId → Bool) (id : InsId) (ids : List InsId) → test id ≡ true → has id ids ≡ true → has id (filter test ids) ≡ true
kept_if test id [] passes is = is
kept_if test id (one ∷ ids) passes is = by_both (is_same_id id one) (test one) refl refl is (kept_if test id ids passes) where
  by_both : (same passed : Bool) → is_same_id id one ≡ same → test one ≡ passed → (same || has id ids) ≡ true → (has id ids ≡ true → has id (filter test ids) ≡ true) → has id (cond passed (one ∷ filter test ids) (filter test ids)) ≡ true
  by_both true true same passed there later = or_left _ _ same
  by_both true false same passed there later = absurd (true≢false (sym passes ∙ ap test ((ids_decide id one).0 same) ∙ passed))
  by_both false true same passed there later = or_right _ _ (later there)
  by_both false false same passed there later = later there

has_once : (id : InsId) (ids : List InsId) → has id ids ≡ true → has id (each_once ids) ≡ true
unfolding each_once
has_once id [] is = is
has_once id (one ∷ ids) is = by_same (is_same_id id one) refl is (has_once id ids) where
  by_same : (same : Bool) → is_same_id id one ≡ same → (same || has id ids) ≡ true → (has id ids ≡ true → has id (each_once ids) ≡ true) → has id (one ∷ filter (λ other. not (is_same_id one other)) (each_once ids)) ≡ true
  by_same true same there later = or_left _ _ same
  by_same false same there later =
      let differ : is_same_id one id ≡ false = apart one id (λ (e : one ≡ id). true≢false (sym ((ids_decide id one).1 (sym e)) ∙ same)) in
      or_right _ _ (kept_if (λ (other : InsId). not (is_same_id one other)) id (each_once ids) (not_from_false _ differ) (later there))

-- ---- the satoshis of the inputs

-- the first row with an id is on one of these satoshis
record StandsThere (joined : List ℕ) (rows : List InsRow) (id : InsId) : Type 0 where
  number : ℕ
  row : InsRow
  sat : ℕ
  first : find rows id ≡ Some number
  there : slice_get rows number ≡ Some row
  on : row.sat ≡ Some sat
  held : Contains joined sat

-- a satoshi is among these
abbrev among : List ℕ → Option ℕ → Bool
among joined sat = list_any (λ s. option_map_or (λ n. n == s) sat false) joined

none_among : (joined : List ℕ) → list_any (λ s. false) joined ≡ false
none_among [] = refl
none_among (s ∷ joined) = none_among joined

held_among : (joined : List ℕ) (sat : Option ℕ) → among joined sat ≡ true → (s : ℕ) × (sat ≡ Some s) × Contains joined s
held_among joined None is = absurd (true≢false (sym is ∙ none_among joined))
held_among joined (Some s) is = (s, refl, Contains-from_any eqb-true s joined is)

abbrev row_among : List ℕ → Option InsRow → Bool
row_among joined row = option_map_or (λ r. among joined r.sat) row false

stands_at : (joined : List ℕ) (rows : List InsRow) (id : InsId) (number : ℕ) (row : Option InsRow) → find rows id ≡ Some number → slice_get rows number ≡ row → row_among joined row ≡ true → StandsThere joined rows id
stands_at joined rows id number None first there is = absurd (true≢false (sym is))
stands_at joined rows id number (Some row) first there is =
    let on = held_among joined row.sat is in record {
      number = number;
      row = row;
      sat = on.0;
      first = first;
      there = there;
      on = on.1;
      held = on.2;
    }

stands_found : (joined : List ℕ) (rows : List InsRow) (id : InsId) (found : Option ℕ) → find rows id ≡ found → row_among joined (option_and_then (λ n. slice_get rows n) found) ≡ true → StandsThere joined rows id
stands_found joined rows id None first is = absurd (true≢false (sym is))
stands_found joined rows id (Some number) first is = stands_at joined rows id number (slice_get rows number) first refl is

stands_there : (joined : List ℕ) (rows : List InsRow) (id : InsId) → stands_among joined rows id ≡ true → StandsThere joined rows id
stands_there joined rows id is = stands_found joined rows id (find rows id) refl is

there_stands : (joined : List ℕ) (rows : List InsRow) (id : InsId) → StandsThere joined rows id → stands_among joined rows id ≡ true
there_stands joined rows id stands =
    ap (λ (found : Option ℕ). row_among joined (option_and_then (λ n. slice_get rows n) found)) stands.first
    ∙ ap (λ (row : Option InsRow). row_among joined row) stands.there
    ∙ ap (λ (sat : Option ℕ). among joined sat) stands.on
    ∙ list_any-from_Contains nat_eq_equiv stands.sat joined stands.held

-- ---- the parents

parent_from : (before : List InsRow) (origin : Origin) (id : InsId) → Contains origin.saying.says.parents id → StandsThere (sats_of origin.did.spent) before id → IsParent before origin id
parent_from before origin id named stands = record {
  named = named;
  number = stands.number;
  row = stands.row;
  sat = stands.sat;
  first = stands.first;
  there = stands.there;
  on = stands.on;
  held = stands.held;
}

stands_from : (before : List InsRow) (origin : Origin) (id : InsId) → IsParent before origin id → StandsThere (sats_of origin.did.spent) before id
stands_from before origin id parent = record {
  number = parent.number;
  row = parent.row;
  sat = parent.sat;
  first = parent.first;
  there = parent.there;
  on = parent.on;
  held = parent.held;
}

abbrev kept_of : List InsRow → Origin → List InsId
kept_of before origin = filter (stands_among (sats_of origin.did.spent) before) (each_once origin.saying.says.parents)

-- both hold of each
both : {X : Type 0} (P Q : X → Type 0) (xs : List X) → All P xs → All Q xs → All (λ (x : X). P x × Q x) xs
both P Q xs all other = λ k d within. (all k d within, other k d within)

only_parents : (before : List InsRow) (origin : Origin) → All (IsParent before origin) (kept_of before origin)
only_parents before origin =
    let joined = sats_of origin.did.spent in
    let named = origin.saying.says.parents in
    All-weaker (λ (id : InsId). Contains named id × (stands_among joined before id ≡ true)) (IsParent before origin)
    (λ id is. parent_from before origin id is.0 (stands_there joined before id is.1)) _
    (both (λ (id : InsId). Contains named id) (λ (id : InsId). stands_among joined before id ≡ true) _
    (All-filter (stands_among joined before) (λ (id : InsId). Contains named id) (each_once named) (all_named named))
    (filter_passes (stands_among joined before) (each_once named)))

ids_equiv : IsEquivalence is_same_id
ids_equiv = record {
  refl = λ x. (ids_decide x x).1 refl;
  symm = λ x y. same_from_decides (is_same_id x y) (is_same_id y x) (ids_decide x y) (Decides-like (is_same_id y x) (λ e. sym e) (λ e. sym e) (ids_decide y x));
  congr = λ x y z same. ap (λ (w : InsId). is_same_id w z) ((ids_decide x y).0 same);
}

each_parent : (before : List InsRow) (origin : Origin) (id : InsId) → IsParent before origin id → Contains (kept_of before origin) id
each_parent before origin id parent =
    let joined = sats_of origin.did.spent in
    let named = origin.saying.says.parents in
    let test : stands_among joined before id ≡ true = there_stands joined before id (stands_from before origin id parent) in
    let once : has id (each_once named) ≡ true = has_once id named (list_any-from_Contains ids_equiv id named parent.named) in
    Contains-from_any (λ (x y : InsId). (ids_decide x y).0) id (kept_of before origin) (kept_if (stands_among joined before) id (each_once named) test once)

pub has_parents : (rows : List InsRow) (height : ℕ) (txs : List Tx) (moved : List MovedTx) (origin : Origin) (row : InsRow) → IsNew rows height txs moved origin row → HasParents (rows_before rows height txs moved origin.place) origin row
has_parents rows height txs moved origin row new =
    let before = rows_before rows height txs moved origin.place in
    let is : row.parents ≡ kept_of before origin =
    ap (λ (r : InsRow). r.parents) new.is
    ∙ ap (λ (joined : List ℕ). filter (stands_among joined before) (each_once new.seen.says.parents)) new.move.joined
    ∙ ap (λ (says : Inscribed). filter (stands_among (sats_of origin.did.spent) before) (each_once says.parents)) (sym new.says) in record {
      once = subst (λ (parents : List InsId). AllPairs (λ (one other : InsId). one ≢ other) parents) (sym is)
          (AllPairs-filter (λ (one other : InsId). one ≢ other) (stands_among (sats_of origin.did.spent) before) _ (each_apart origin.saying.says.parents));
      only = subst (λ (parents : List InsId). All (IsParent before origin) parents) (sym is) (only_parents before origin);
      each = λ id parent. subst (λ (parents : List InsId). Contains parents id) (sym is) (each_parent before origin id parent);
    }
