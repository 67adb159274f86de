-- Places of outpoints that are sorted by fronts and by the outpoints themselves: the outpoints are in their order.
use Rattle.std.proofs.Common.{◌≡◌, ◌∙◌, ◌<◌, ◌+◌, ℕ, zero, suc, Bool, true, false, cond, List, [], ◌∷◌, ◌++◌, map, length, get_or, refl, sym, ap, subst, arith, not, inl, inr, Option, Some, None, Ordering}
use Rattle.std.specs.Prelude.{All, ◌&&◌, ◌⊎◌, unwrap_or}
use Rattle.std.specs.BTreeMap.{is_at}
use Rattle.std.specs.Cmp.{IsStrictWeakOrder, IsTotalOrder, eq_by_cmp_equiv}
use Rattle.std.specs.Cmp.Lexicographic.{slice_cmp, options_total}
use Rattle.std.specs.FinMap.{nat_cmp-IsAntisymmetric}
use Rattle.std.specs.List.{dedup, dedup_from, filter}
use Rattle.std.specs.List.Sorted.{IsSorted, IsStable}
use Rattle.std.specs.Map.{lookup}
use Rattle.std.specs.Option.{option_cmp, option_map}
use Rattle.std.specs.Ordering.{eq_by_cmp, is_eq, is_lt, nat_cmp, ordering_then}
use Rattle.std.specs.declared.cmp.Ordering.TheVariants.{Less, Equal, Greater}
use Rattle.std.proofs.lemmas.Cmp.{nat_cmp_total, on_total, then_total}
use Rattle.std.proofs.lemmas.List.{get_or-map, length-map, map-append}
use Rattle.std.proofs.lemmas.List.Elements.{All-get_or, All-head, All-push, All-tail}
use Rattle.std.proofs.lemmas.List.Sorted.{ranks_by}
use Rattle.std.proofs.lemmas.Option.{slice_get-get_or}
use Rattle.ox_block.specs.declared.block.OutPoint.{OutPoint}
use Rattle.ox_block.proofs.FrontsDecideOrder.{fronts_decide}
use Rattle.ox_rules.specs.Outputs.{outpoint_cmp}
use Rattle.ox_rules.proofs.Orders.{outpoints_total}
use Rattle.ox_outputs.specs.Differing.{outpoint_in, pairs_in}
use Rattle.ox_outputs.specs.Fronts.{IsFront, IsFronted, fronted_cmp, no_outpoint, pair_of}
use Rattle.ox_outputs.specs.declared.slot_of.SlotOf.{SlotOf}
use Rattle.ox_outputs.specs.declared.fronted.Fronted.{Fronted}
use Rattle.ox_outputs.proofs.PlaceLemmas.{is_same, same_or_not}
use Rattle.ox_outputs.proofs.DifferingRows.{have_one, ties_same}

-- ---- the fronts of ids

decided : (r s t : Ordering) → t ≡ r → (r ≡ Equal → ⊥) → r ≡ ordering_then t s
decided Less s t is other = sym (ap (λ (u : Ordering). ordering_then u s) is)
decided Equal s t is other = absurd (other refl)
decided Greater s t is other = sym (ap (λ (u : Ordering). ordering_then u s) is)

-- fronts that differ decide
pub fronts_lead : (m n : ℕ) (a b : OutPoint) → IsFront m a → IsFront n b → (m ≡ n → ⊥) → nat_cmp m n ≡ outpoint_cmp a b
fronts_lead m n a b f g apart =
    let us = a.txid.0 in
    let vs = b.txid.0 in
    let by_bytes : slice_cmp nat_cmp us vs ≡ nat_cmp m n =
    fronts_decide 8 0 us vs f.long g.long f.bytes g.bytes (λ e. apart (f.is ∙ e ∙ sym g.is))
    ∙ (λ i. nat_cmp (sym f.is i) (sym g.is i)) in
    decided (nat_cmp m n) (nat_cmp a.index b.index) (slice_cmp nat_cmp us vs) by_bytes (λ tie. apart (nat_cmp-IsAntisymmetric m n tie))

-- so the order by fronts and then by outpoints is that of the outpoints
by_fronts : (m n : ℕ) (a b : OutPoint) → IsFront m a → IsFront n b → ordering_then (nat_cmp m n) (outpoint_cmp a b) ≡ outpoint_cmp a b
by_fronts m n a b f g = by_order (nat_cmp m n) refl where
  equal : (r : Ordering) → is_eq r ≡ true → r ≡ Equal
  equal Less p = absurd (cc p)
  equal Equal p = refl
  equal Greater p = absurd (cc p)

  level : (k : ℕ) → nat_cmp k k ≡ Equal
  level k = equal (nat_cmp k k) ((eq_by_cmp_equiv nat_cmp_total).refl k)

  apart : (r : Ordering) → nat_cmp m n ≡ r → (r ≡ Equal → ⊥) → m ≡ n → ⊥
  apart r is other same = other (sym is ∙ ap (nat_cmp m) (sym same) ∙ level m)

  by_order : (r : Ordering) → nat_cmp m n ≡ r → ordering_then (nat_cmp m n) (outpoint_cmp a b) ≡ outpoint_cmp a b
  by_order Equal is = ap (λ (s : Ordering). ordering_then s (outpoint_cmp a b)) is
  by_order Less is = ap (λ (s : Ordering). ordering_then s (outpoint_cmp a b)) is ∙ sym is ∙ fronts_lead m n a b f g (apart Less is (λ e. absurd (cc e)))
  by_order Greater is = ap (λ (s : Ordering). ordering_then s (outpoint_cmp a b)) is ∙ sym is ∙ fronts_lead m n a b f g (apart Greater is (λ e. absurd (cc e)))

-- ---- the places of changes

-- the outpoint of a change, found at its place
pub there_at : (d : SlotOf) (changed : List SlotOf) (n : ℕ) → n < length changed → outpoint_in changed n ≡ Some (get_or changed n d).at
there_at d changed n low = ap (option_map (λ (s : SlotOf). s.at)) (slice_get-get_or changed n d low)

-- a place of a change has its outpoint
pub pair_there : (d : SlotOf) (changed : List SlotOf) (one : Fronted) → one.place < length changed → pair_of (outpoint_in changed) one ≡ ((get_or changed one.place d).at, one.place)
pair_there d changed one low i = (unwrap_or (there_at d changed one.place low i) no_outpoint, one.place)

-- the one that stands at a place among the outpoints of changes
pub pair_is : (changed : List SlotOf) (places : List Fronted) (k : ℕ) (d : Fronted) → get_or (pairs_in changed places) k (pair_of (outpoint_in changed) d) ≡ pair_of (outpoint_in changed) (get_or places k d)
pair_is changed places k d = mapped places k where
  mapped : (l : List Fronted) (n : ℕ) → get_or (map (pair_of (outpoint_in changed)) l) n (pair_of (outpoint_in changed) d) ≡ pair_of (outpoint_in changed) (get_or l n d)
  mapped [] n = refl
  mapped (x ∷ l) zero = refl
  mapped (x ∷ l) (suc n) = mapped l n

pub pairs_count : (changed : List SlotOf) (places : List Fronted) → length (pairs_in changed places) ≡ length places
pairs_count changed places = length-map places (pair_of (outpoint_in changed))

-- and its outpoint is that of the change
pub outpoint_of_pair : (s : SlotOf) (changed : List SlotOf) (places : List Fronted) (k : ℕ) (d : Fronted) → (get_or places k d).place < length changed
    → (get_or (pairs_in changed places) k (pair_of (outpoint_in changed) d)).0 ≡ (get_or changed (get_or places k d).place s).at
outpoint_of_pair s changed places k d low = ap (λ (p : OutPoint × ℕ). p.0) (pair_is changed places k d ∙ pair_there s changed (get_or places k d) low)

-- one more change has its place
pub pairs_more : (d : SlotOf) (changed : List SlotOf) (places new : List Fronted) (one : Fronted) → one.place < length changed → new ≡ places ++ one ∷ [] → pairs_in changed new ≡ pairs_in changed places ++ ((get_or changed one.place d).at, one.place) ∷ []
pairs_more d changed places new one low pushed =
    ap (pairs_in changed) pushed
    ∙ map-append (pair_of (outpoint_in changed)) places (one ∷ [])
    ∙ ap (λ (e : OutPoint × ℕ). pairs_in changed places ++ e ∷ []) (pair_there d changed one low)

pub fronts_more : (d : SlotOf) (changed : List SlotOf) (places new : List Fronted) (one : Fronted) → one.place < length changed → IsFront one.front (get_or changed one.place d).at → new ≡ places ++ one ∷ []
    → All (IsFronted (outpoint_in changed)) places → All (IsFronted (outpoint_in changed)) new
fronts_more d changed places new one low front pushed all =
    let here : IsFronted (outpoint_in changed) one = record { outpoint = (get_or changed one.place d).at; there = there_at d changed one.place low; front = front } in
    subst (All (IsFronted (outpoint_in changed))) (sym pushed) (All-push (IsFronted (outpoint_in changed)) places one all here)

-- ---- places that are sorted

both_cmp : ℕ × Option OutPoint → ℕ × Option OutPoint → Ordering
both_cmp a b = ordering_then (nat_cmp a.0 b.0) (option_cmp outpoint_cmp a.1 b.1)

both_total : IsTotalOrder both_cmp
unfolding both_cmp
both_total = then_total (on_total (λ (p : ℕ × Option OutPoint). p.0) nat_cmp_total) (on_total (λ (p : ℕ × Option OutPoint). p.1) (options_total outpoints_total))

module _ (at : ℕ → Option OutPoint) where
  pub places_rank : IsStrictWeakOrder (λ a b. is_lt (fronted_cmp at a b))
  unfolding both_cmp
  places_rank = ranks_by both_total (λ (one : Fronted). (one.front, at one.place))

  -- the order of two places is that of their outpoints
  pub fronted_as : (a b : Fronted) → IsFronted at a → IsFronted at b → fronted_cmp at a b ≡ outpoint_cmp (pair_of at a).0 (pair_of at b).0
  fronted_as a b p q =
      (λ i. ordering_then (nat_cmp a.front b.front) (option_cmp outpoint_cmp (p.there i) (q.there i)))
      ∙ by_fronts a.front b.front p.outpoint q.outpoint p.front q.front
      ∙ sym (λ i. outpoint_cmp (unwrap_or (p.there i) no_outpoint) (unwrap_or (q.there i) no_outpoint))

  -- places that are sorted have sorted outpoints
  pub pairs_sorted : (xs : List Fronted) → All (IsFronted at) xs → IsSorted (fronted_cmp at) xs → IsSorted (λ a b. outpoint_cmp a.0 b.0) (map (pair_of at) xs)
  pairs_sorted xs all sorted k d low high =
      let one : Fronted = record { front = 0; place = 0 } in
      let next : k + 1 < length xs = omega (arith, high, length-map xs (pair_of at)) in
      let here : k < length xs = omega (arith, next) in
      (λ i. is_lt (outpoint_cmp (get_or-map (pair_of at) xs (k + 1) one d next i).0 (get_or-map (pair_of at) xs k one d here i).0))
      ∙ ap is_lt (sym (fronted_as (get_or xs (k + 1) one) (get_or xs k one) (All-get_or (IsFronted at) xs (k + 1) one next all) (All-get_or (IsFronted at) xs k one here all)))
      ∙ sorted k one low next

  -- ---- places that are sorted stably

  -- whether neither of two comes before the other
  abbrev tie : Fronted → Fronted → Bool
  tie x e = not (is_lt (fronted_cmp at x e)) && not (is_lt (fronted_cmp at e x))

  -- one of an outpoint ties with each of that outpoint
  ties_there : (x e : Fronted) → IsFronted at x → IsFronted at e → is_same (pair_of at x).0 (pair_of at e).0 ≡ true → tie x e ≡ true
  ties_there x e p q same =
      (λ i. not (is_lt (fronted_as x e p q i)) && not (is_lt (fronted_as e x q p i)))
      ∙ ties_same (pair_of at x).0 (pair_of at e).0 same

  abbrev Found : OutPoint → List Fronted → Option ℕ
  Found q es = lookup (is_at (outpoint_cmp q)) (map (pair_of at) es)

  -- among those that tie with one of an outpoint, the first of the outpoint is the same
  first_kept : (q : OutPoint) (x : Fronted) → IsFronted at x → is_same q (pair_of at x).0 ≡ true → (es : List Fronted) → All (IsFronted at) es → Found q (filter (tie x) es) ≡ Found q es
  first_kept q x p same [] all = refl
  first_kept q x p same (e ∷ es) all = by_same (first_kept q x p same es (All-tail (IsFronted at) e es all)) (same_or_not q (pair_of at e).0) where
    over : (b : Bool) → is_same q (pair_of at e).0 ≡ false → Found q (cond b (e ∷ filter (tie x) es) (filter (tie x) es)) ≡ Found q (filter (tie x) es)
    over true other = ap (λ (t : Bool). cond t (Some e.place) (Found q (filter (tie x) es))) other
    over false other = refl

    by_same : Found q (filter (tie x) es) ≡ Found q es → (q ≡ (pair_of at e).0) ⊎ (is_same q (pair_of at e).0 ≡ false) → Found q (filter (tie x) (e ∷ es)) ≡ Found q (e ∷ es)
    by_same rest (inl here) =
        let ties : tie x e ≡ true = ties_there x e p (All-head (IsFronted at) e es all) (
        (eq_by_cmp_equiv outpoints_total).symm (pair_of at x).0 (pair_of at e).0 ∙ ap (λ (o : OutPoint). is_same o (pair_of at x).0) (sym here) ∙ same) in
        ap (λ (b : Bool). Found q (cond b (e ∷ filter (tie x) es) (filter (tie x) es))) ties
        ∙ ap (cond (is_same q (pair_of at e).0) (Some e.place)) rest
    by_same rest (inr other) =
        over (tie x e) other ∙ rest
        ∙ sym (ap (λ (t : Bool). cond t (Some e.place) (Found q es)) other)

  -- where an outpoint is found, one of it stands
  one_found : (q : OutPoint) (n : ℕ) (es : List Fronted) → All (IsFronted at) es → Found q es ≡ Some n → (x : Fronted) × IsFronted at x × (is_same q (pair_of at x).0 ≡ true)
  one_found q n [] all is = absurd (cc is)
  one_found q n (e ∷ es) all is = by_test (one_found q n es (All-tail (IsFronted at) e es all)) (is_same q (pair_of at e).0) refl is where
    by_test : (Found q es ≡ Some n → (x : Fronted) × IsFronted at x × (is_same q (pair_of at x).0 ≡ true)) → (b : Bool) → is_same q (pair_of at e).0 ≡ b → cond b (Some e.place) (Found q es) ≡ Some n
        → (x : Fronted) × IsFronted at x × (is_same q (pair_of at x).0 ≡ true)
    by_test more true here is = (e, All-head (IsFronted at) e es all, here)
    by_test more false here is = more is

  -- so the first of an outpoint stays the first
  pub found_stably : (xs ys : List Fronted) → All (IsFronted at) xs → All (IsFronted at) ys → IsStable (fronted_cmp at) xs ys → (q : OutPoint) → Found q ys ≡ Found q xs
  found_stably xs ys all all' stable q = by_either (Found q xs) (Found q ys) refl refl where
    with_one : (x : Fronted) × IsFronted at x × (is_same q (pair_of at x).0 ≡ true) → Found q ys ≡ Found q xs
    with_one x =
        sym (first_kept q x.0 x.1 x.2 ys all') ∙ ap (Found q) (stable x.0) ∙ first_kept q x.0 x.1 x.2 xs all

    by_either : (o r : Option ℕ) → Found q xs ≡ o → Found q ys ≡ r → Found q ys ≡ Found q xs
    by_either (Some n) r is too = with_one (one_found q n xs all is)
    by_either None (Some n) is too = with_one (one_found q n ys all' too)
    by_either None None is too = too ∙ sym is

  -- ---- places of which the first of each outpoint is kept

  same_as : (a b : Fronted) → IsFronted at a → IsFronted at b → eq_by_cmp (fronted_cmp at) a b ≡ is_same (pair_of at a).0 (pair_of at b).0
  same_as a b p q = ap is_eq (fronted_as a b p q)

  firsts_from : (k : Fronted) (xs : List Fronted) → IsFronted at k → All (IsFronted at) xs
      → map (pair_of at) (dedup_from (eq_by_cmp (fronted_cmp at)) k xs) ≡ dedup_from have_one (pair_of at k) (map (pair_of at) xs)
  firsts_from k [] p all = refl
  firsts_from k (x ∷ xs) p all =
      let q : IsFronted at x = All-head (IsFronted at) x xs all in
      let rest : All (IsFronted at) xs = All-tail (IsFronted at) x xs all in
      by_test (same_as x k q p) (firsts_from k xs p rest) (firsts_from x xs q rest) (eq_by_cmp (fronted_cmp at) x k) refl where
        by_test : eq_by_cmp (fronted_cmp at) x k ≡ have_one (pair_of at x) (pair_of at k)
            → map (pair_of at) (dedup_from (eq_by_cmp (fronted_cmp at)) k xs) ≡ dedup_from have_one (pair_of at k) (map (pair_of at) xs)
            → map (pair_of at) (dedup_from (eq_by_cmp (fronted_cmp at)) x xs) ≡ dedup_from have_one (pair_of at x) (map (pair_of at) xs)
            → (b : Bool) → eq_by_cmp (fronted_cmp at) x k ≡ b
            → map (pair_of at) (dedup_from (eq_by_cmp (fronted_cmp at)) k (x ∷ xs)) ≡ dedup_from have_one (pair_of at k) (map (pair_of at) (x ∷ xs))
        by_test same first second true is =
            ap (λ (b : Bool). map (pair_of at) (cond b (dedup_from (eq_by_cmp (fronted_cmp at)) k xs) (k ∷ dedup_from (eq_by_cmp (fronted_cmp at)) x xs))) is
            ∙ first
            ∙ sym (ap (λ (b : Bool). cond b (dedup_from have_one (pair_of at k) (map (pair_of at) xs)) (pair_of at k ∷ dedup_from have_one (pair_of at x) (map (pair_of at) xs))) (sym same ∙ is))
        by_test same first second false is =
            ap (λ (b : Bool). map (pair_of at) (cond b (dedup_from (eq_by_cmp (fronted_cmp at)) k xs) (k ∷ dedup_from (eq_by_cmp (fronted_cmp at)) x xs))) is
            ∙ ap (λ (l : List (OutPoint × ℕ)). pair_of at k ∷ l) second
            ∙ sym (ap (λ (b : Bool). cond b (dedup_from have_one (pair_of at k) (map (pair_of at) xs)) (pair_of at k ∷ dedup_from have_one (pair_of at x) (map (pair_of at) xs))) (sym same ∙ is))

  -- the outpoints of those that are kept
  pub firsts_of : (xs : List Fronted) → All (IsFronted at) xs → map (pair_of at) (dedup (eq_by_cmp (fronted_cmp at)) xs) ≡ dedup have_one (map (pair_of at) xs)
  firsts_of [] all = refl
  firsts_of (x ∷ xs) all = firsts_from x xs (All-head (IsFronted at) x xs all) (All-tail (IsFronted at) x xs all)
