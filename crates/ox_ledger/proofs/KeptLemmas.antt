-- Values by their places, and what stood where others were put.
use Rattle.std.proofs.Common.{◌≡◌, ◌≢◌, ◌∙◌, ℕ, zero, suc, ◌+◌, ◌<◌, ◌≤◌, Bool, true, false, true≢false, cond, List, [], ◌∷◌, ◌++◌, length, refl, sym, ap, subst, Option, Some, None, Bor, arith}
use Rattle.std.specs.Prelude.{IsSome, All, OnErr, OnOk, Result, Ok, Err, is_some, slice_get, slice_index_or, slice_set}
use Rattle.std.specs.BTreeMap.{BTreeMap, IsOrdered, is_at}
use Rattle.std.specs.List.{list_any}
use Rattle.std.specs.Map.{keys_of}
use Rattle.std.specs.Option.{IsSomeAnd, option_copied, option_or}
use Rattle.std.specs.Ordering.{is_eq, nat_cmp}
use Rattle.std.proofs.lemmas.List.Elements.{All-head, All-nil, All-push, All-rest, All-same}
use Rattle.std.proofs.lemmas.Cmp.{nat_cmp_total}
use Rattle.std.proofs.lemmas.Map.Entries.{btree_map_get_place}
use Rattle.std.proofs.lemmas.Option.{slice_get-get_or}
use Rattle.std.proofs.lemmas.Map.Made.{is_some-lookup}
use Rattle.ox_ledger.specs.Marks.{AreOfPlaces, IsFull, Standing, kept_at, stood_in}
use Rattle.ox_ledger.proofs.ListLemmas.{IsPut, length-slice_set, not_tied, put_elsewhere, put_here, same_or_other, set_elsewhere, set_here, tied}

-- which places are among those of which something is kept
pub any_kept : {A : Type 0} (stood : List (ℕ × A)) (q : ℕ) → list_any (λ key. is_eq (nat_cmp q key)) (keys_of stood) ≡ is_some (kept_at stood q)
any_kept stood q = sym (is_some-lookup (is_at (nat_cmp q)) stood)

module _ {A : Type 0} where
  pub some_within : (items : List A) (i : ℕ) → IsSome (slice_get items i) → i < length items
  some_within [] i some = absurd (cc some)
  some_within (x ∷ xs) zero some = omega arith
  some_within (x ∷ xs) (suc i) some = let rest = some_within xs i some in omega (arith, rest)

  pub full_within : (items : List A) (n : ℕ) → IsFull (slice_get items) n → n ≤ length items
  full_within items zero full = omega arith
  full_within items (suc n) full = let last = some_within items n (full n (omega arith)) in omega (arith, last)

  -- ---- what a value put at a place makes of the values

  pub set_put : (items : List A) (k : ℕ) (v : A) → k < length items → IsPut (slice_get items) (slice_get (slice_set items k v)) k v
  set_put items k v less = λ q.
      same_or_other (slice_get (slice_set items k v) q ≡ cond (is_eq (nat_cmp k q)) (Some v) (slice_get items q)) q k
      (λ is. ap (slice_get (slice_set items k v)) is ∙ set_here items k v less ∙ sym (ap (λ b. cond b (Some v) (slice_get items q)) (ap (λ n. is_eq (nat_cmp k n)) is ∙ tied k)))
      (λ other. set_elsewhere items k q v other ∙ sym (ap (λ b. cond b (Some v) (slice_get items q)) (not_tied k q (λ e. other (sym e)))))

  append_here : (items : List A) (v : A) → slice_get (items ++ v ∷ []) (length items) ≡ Some v
  append_here [] v = refl
  append_here (x ∷ xs) v = append_here xs v

  append_elsewhere : (items : List A) (v : A) (q : ℕ) → q ≢ length items → slice_get (items ++ v ∷ []) q ≡ slice_get items q
  append_elsewhere [] v zero other = absurd (other refl)
  append_elsewhere [] v (suc q) other = refl
  append_elsewhere (x ∷ xs) v zero other = refl
  append_elsewhere (x ∷ xs) v (suc q) other = append_elsewhere xs v q (λ e. other (ap suc e))

  pub append_put : (items : List A) (k : ℕ) (v : A) → k ≡ length items → IsPut (slice_get items) (slice_get (items ++ v ∷ [])) k v
  append_put items k v last = λ q.
      same_or_other (slice_get (items ++ v ∷ []) q ≡ cond (is_eq (nat_cmp k q)) (Some v) (slice_get items q)) q k
      (λ is. ap (slice_get (items ++ v ∷ [])) (is ∙ last) ∙ append_here items v ∙ sym (ap (λ b. cond b (Some v) (slice_get items q)) (ap (λ n. is_eq (nat_cmp k n)) is ∙ tied k)))
      (λ other. append_elsewhere items v q (λ e. other (e ∙ sym last)) ∙ sym (ap (λ b. cond b (Some v) (slice_get items q)) (not_tied k q (λ e. other (sym e)))))

  -- ---- and of what stood

  none_or : (there : Option A) (other : Option A) → is_some there ≡ false → option_or there other ≡ other
  none_or None other none = refl
  none_or (Some x) other none = absurd (true≢false none)

  some_or : (there one other : Option A) → IsSome there → option_or there one ≡ option_or there other
  some_or None one other some = absurd (cc some)
  some_or (Some x) one other some = refl

  -- a place behind those of which something is kept
  pub stood_before : (stood : List (ℕ × A)) (items : List A) (k q end : ℕ) (v : A) → end ≤ k → q < end
      → stood_in (record { items = slice_set items k v; stood = stood }) q ≡ stood_in (record { items = items; stood = stood }) q
  stood_before stood items k q end v behind less = ap (option_or (kept_at stood q)) (set_elsewhere items k q v (λ e. absurd (omega (arith, e, behind, less))))

  -- a place of which something is kept
  pub stood_already : (stood : List (ℕ × A)) (items : List A) (k q : ℕ) (v : A) → IsSome (kept_at stood k)
      → stood_in (record { items = slice_set items k v; stood = stood }) q ≡ stood_in (record { items = items; stood = stood }) q
  stood_already stood items k q v some =
      same_or_other (stood_in (record { items = slice_set items k v; stood = stood }) q ≡ stood_in (record { items = items; stood = stood }) q) q k
      (λ is. some_or (kept_at stood q) (slice_get (slice_set items k v) q) (slice_get items q) (subst (λ n. IsSome (kept_at stood n)) (sym is) some))
      (λ other. ap (option_or (kept_at stood q)) (set_elsewhere items k q v other))

  -- a place of which something is kept from now on
  pub stood_first : (old new : List (ℕ × A)) (items : List A) (k q : ℕ) (first v : A) → IsPut (kept_at old) (kept_at new) k first → is_some (kept_at old k) ≡ false → slice_get items k ≡ Some first
      → stood_in (record { items = slice_set items k v; stood = new }) q ≡ stood_in (record { items = items; stood = old }) q
  stood_first old new items k q first v put none is =
      same_or_other (stood_in (record { items = slice_set items k v; stood = new }) q ≡ stood_in (record { items = items; stood = old }) q) q k
      (λ same. ap (λ n. stood_in (record { items = slice_set items k v; stood = new }) n) same
      ∙ ap (λ there. option_or there (slice_get (slice_set items k v) k)) (put_here (kept_at old) (kept_at new) k first put)
      ∙ sym (ap (λ n. stood_in (record { items = items; stood = old }) n) same ∙ none_or (kept_at old k) (slice_get items k) none ∙ is))
      (λ other. ap (λ there. option_or there (slice_get (slice_set items k v) q)) (put_elsewhere (kept_at old) (kept_at new) k q first put other) ∙ ap (option_or (kept_at old q)) (set_elsewhere items k q v other))

  pub places_first : (old new : List (ℕ × A)) (items : List A) (k : ℕ) (first v : A) → IsPut (kept_at old) (kept_at new) k first → k < length items → AreOfPlaces old items
      → AreOfPlaces new (slice_set items k v)
  places_first old new items k first v put less are = λ q some.
      let long = length-slice_set items k v in
      same_or_other (q < length (slice_set items k v)) q k
      (λ is. omega (arith, is, less, long))
      (λ other. let within = are q (subst IsSome (put_elsewhere (kept_at old) (kept_at new) k q first put other) some) in omega (arith, within, long))

  pub places_set : (stood : List (ℕ × A)) (items : List A) (k : ℕ) (v : A) → AreOfPlaces stood items → AreOfPlaces stood (slice_set items k v)
  places_set stood items k v are = λ q some. let within = are q some in let long = length-slice_set items k v in omega (arith, within, long)

  length-push : (items : List A) (v : A) → length (items ++ v ∷ []) ≡ length items + 1
  length-push [] v = refl
  length-push (x ∷ xs) v = let rest = length-push xs v in omega (arith, rest)

  pub places_push : (stood : List (ℕ × A)) (items : List A) (v : A) → AreOfPlaces stood items → AreOfPlaces stood (items ++ v ∷ [])
  places_push stood items v are = λ q some. let within = are q some in let long = length-push items v in omega (arith, within, long)

  -- a value in its place again
  pub set_again : (items : List A) (k : ℕ) (v first : A) → first ≡ slice_index_or items k first → slice_set (slice_set items k v) k first ≡ items
  set_again [] k v first is = refl
  set_again (x ∷ xs) zero v first is = ap (λ y. y ∷ xs) is
  set_again (x ∷ xs) (suc k) v first is = ap (λ l. x ∷ l) (set_again xs k v first is)

  -- a value behind the last one
  pub stood_push : (stood : List (ℕ × A)) (items : List A) (q : ℕ) (v : A) → AreOfPlaces stood items → IsSome (stood_in (record { items = items; stood = stood }) q)
      → stood_in (record { items = items ++ v ∷ []; stood = stood }) q ≡ stood_in (record { items = items; stood = stood }) q
  stood_push stood items q v are some =
      ap (option_or (kept_at stood q)) (append_elsewhere items v q (λ last. by_test (is_some (kept_at stood q)) refl last)) where
        by_test : (b : Bool) → is_some (kept_at stood q) ≡ b → q ≡ length items → ⊥
        by_test true is last = let within = are q is in absurd (omega (arith, within, last))
        by_test false is last =
            let within = some_within items q (subst IsSome (none_or (kept_at stood q) (slice_get items q) is) some) in
            absurd (omega (arith, within, last))

  -- ---- what is put back

  -- what is kept of a place is put back there
  abbrev pub IsTaken : List (ℕ × A) → List (ℕ × A) → ℕ → Type 0
  IsTaken old new k = (q : ℕ) → kept_at new q ≡ cond (is_eq (nat_cmp k q)) None (kept_at old q)

  taken_here : (old new : List (ℕ × A)) (k : ℕ) → IsTaken old new k → kept_at new k ≡ None
  taken_here old new k taken = taken k ∙ ap (λ b. cond b None (kept_at old k)) (tied k)

  taken_elsewhere : (old new : List (ℕ × A)) (k q : ℕ) → IsTaken old new k → q ≢ k → kept_at new q ≡ kept_at old q
  taken_elsewhere old new k q taken other = taken q ∙ ap (λ b. cond b None (kept_at old q)) (not_tied k q (λ e. other (sym e)))

  pub stood_back : (old new : List (ℕ × A)) (items : List A) (k q : ℕ) (v : A) → IsTaken old new k → kept_at old k ≡ Some v → k < length items
      → stood_in (record { items = slice_set items k v; stood = new }) q ≡ stood_in (record { items = items; stood = old }) q
  stood_back old new items k q v taken is less =
      same_or_other (stood_in (record { items = slice_set items k v; stood = new }) q ≡ stood_in (record { items = items; stood = old }) q) q k
      (λ same. ap (λ n. stood_in (record { items = slice_set items k v; stood = new }) n) same
      ∙ ap (λ there. option_or there (slice_get (slice_set items k v) k)) (taken_here old new k taken) ∙ set_here items k v less
      ∙ sym (ap (λ n. stood_in (record { items = items; stood = old }) n) same ∙ ap (λ there. option_or there (slice_get items k)) is))
      (λ other. ap (λ there. option_or there (slice_get (slice_set items k v) q)) (taken_elsewhere old new k q taken other) ∙ ap (option_or (kept_at old q)) (set_elsewhere items k q v other))

  pub places_back : (old new : List (ℕ × A)) (items : List A) (k : ℕ) (v : A) → IsTaken old new k → AreOfPlaces old items → AreOfPlaces new (slice_set items k v)
  places_back old new items k v taken are = λ q some.
      let long = length-slice_set items k v in
      same_or_other (q < length (slice_set items k v)) q k
      (λ is. absurd (true≢false (sym (subst IsSome (ap (kept_at new) is ∙ taken_here old new k taken) some))))
      (λ other. let within = are q (subst IsSome (taken_elsewhere old new k q taken other) some) in omega (arith, within, long))

  pub kept_within : (stood : List (ℕ × A)) (items : List A) (k : ℕ) (v : A) → AreOfPlaces stood items → kept_at stood k ≡ Some v → k < length items
  kept_within stood items k v are is = are k (subst IsSome (sym is) refl)

  pub none_kept : (stood : List (ℕ × A)) → (0 < length stood → ⊥) → stood ≡ []
  none_kept [] none = refl
  none_kept (one ∷ stood) none = absurd (none (omega arith))

  -- where nothing is kept all is as it stood
  pub unkept : (values : Standing A) (q : ℕ) → is_some (kept_at values.stood q) ≡ false → slice_get values.items q ≡ stood_in values q
  unkept values q none = sym (none_or (kept_at values.stood q) (slice_get values.items q) none)

  pub stood_last : (values : Standing A) (q : ℕ) → values.stood ≡ [] → stood_in values q ≡ slice_get values.items q
  stood_last values q none = ap (λ (stood : List (ℕ × A)). option_or (kept_at stood q) (slice_get values.items q)) none

  -- what is told of a place stood there
  pub told_stood : (values : Standing A) (place : ℕ) (there : Option A) → IsSomeAnd (kept_at values.stood place) (λ value. there ≡ Some value) → there ≡ stood_in values place
  told_stood values place there is = by_test (kept_at values.stood place) is where
    by_test : (kept : Option A) → IsSomeAnd kept (λ value. there ≡ Some value) → there ≡ option_or kept (slice_get values.items place)
    by_test None is = absurd is
    by_test (Some value) is = is

-- ---- what is told

-- those so far are told, and what is kept of those to come is found
abbrev pub Tells : {A : Type 0} → List (ℕ × A) → List (ℕ × Option (Bor A)) → List (ℕ × A) → Type 0
Tells stood shown left = record {
  places : keys_of shown ++ keys_of left ≡ keys_of stood;
  kept : All (λ one. IsSomeAnd (kept_at stood one.0) (λ value. option_copied one.1 ≡ Some value)) shown;
  found : All (λ one. kept_at stood one.0 ≡ Some one.1) left;
}

-- the places of one more
pub keys_on : {B : Type 0} (shown : List (ℕ × B)) (one : ℕ × B) (rest : List ℕ) → keys_of (shown ++ one ∷ []) ++ rest ≡ keys_of shown ++ one.0 ∷ rest
keys_on [] one rest = refl
keys_on (first ∷ shown) one rest = ap (λ places. first.0 ∷ places) (keys_on shown one rest)

-- what is kept of a place is found there
each_found : {A : Type 0} (stood : BTreeMap ℕ A) → IsOrdered nat_cmp stood → All (λ one. kept_at stood.entries one.0 ≡ Some one.1) stood.entries
each_found stood ordered = λ k d less.
    let one = slice_index_or stood.entries k d in
    btree_map_get_place nat_cmp_total stood k one.0 one.1 ordered (slice_get-get_or stood.entries k d less)

pub none_told : {A : Type 0} (stood : BTreeMap ℕ A) (left : List (ℕ × A)) (shown : List (ℕ × Option (Bor A))) → shown ≡ [] → left ≡ stood.entries → IsOrdered nat_cmp stood → Tells stood.entries shown left
none_told {A} stood left shown none all ordered = record {
  places = ap (λ (l : List (ℕ × Option (Bor A))). keys_of l ++ keys_of left) none ∙ ap (λ (l : List (ℕ × A)). keys_of l) all;
  kept = All-same (λ (one : ℕ × Option (Bor A)). IsSomeAnd (kept_at stood.entries one.0) (λ value. option_copied one.1 ≡ Some value)) shown [] none (All-nil _);
  found = All-same (λ (one : ℕ × A). kept_at stood.entries one.0 ≡ Some one.1) left stood.entries all (each_found stood ordered);
}

pub more_told : {A : Type 0} (stood left next : List (ℕ × A)) (shown more : List (ℕ × Option (Bor A))) (one : ℕ × A) (there : Option (Bor A)) → left ≡ one ∷ next → more ≡ shown ++ (one.0, there) ∷ [] → option_copied there ≡ Some one.1
    → Tells stood shown left → Tells stood more next
more_told {A} stood left next shown more one there steps grown copied tells =
    let Found : ℕ × A → Type 0 = λ one. kept_at stood one.0 ≡ Some one.1 in
    let Told : ℕ × Option (Bor A) → Type 0 = λ one. IsSomeAnd (kept_at stood one.0) (λ value. option_copied one.1 ≡ Some value) in
    let here : kept_at stood one.0 ≡ Some one.1 = All-head Found one next (All-same Found (one ∷ next) left (sym steps) tells.found) in record {
      places =
          ap (λ (l : List (ℕ × Option (Bor A))). keys_of l ++ keys_of next) grown ∙ keys_on shown (one.0, there) (keys_of next)
          ∙ ap (λ (l : List (ℕ × A)). keys_of shown ++ keys_of l) (sym steps) ∙ tells.places;
      kept =
          All-same Told more (shown ++ (one.0, there) ∷ []) grown
          (All-push Told shown (one.0, there) tells.kept (subst (λ kept. IsSomeAnd kept (λ value. option_copied there ≡ Some value)) (sym here) copied));
      found = All-rest Found one next left steps tells.found;
    }

-- what follows from each of both outcomes
pub either : {T E P Q R : Type 0} (r : Result T E) → (P → R) → (Q → R) → OnOk r P → OnErr r Q → R
either (Ok x) one other p q = one p
either (Err e) one other p q = other q
