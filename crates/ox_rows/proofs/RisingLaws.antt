-- The law of items by rising keys, and what it says in other words that keys rise.
use Rattle.std.proofs.Common.{◌≡◌, ℕ, zero, suc, Bool, true, false, not, ◌&&◌, List, [], ◌∷◌, ◌++◌, length, Ok, Option, Some, None, Ordering, refl, sym, ap, subst, ◌∙◌, append_assoc}
use Rattle.std.specs.Prelude.{IsTrue}
use Rattle.std.specs.List.{flat_map, AllByRecursion}
use Rattle.std.specs.List.Sorted.{IsStrictlySortedBy}
use Rattle.std.specs.Map.{keys_of}
use Rattle.std.specs.Ordering.{is_lt}
use Rattle.std.specs.declared.cmp.Ordering.TheVariants.{Less, Equal, Greater}
use Rattle.std.specs.Cmp.{IsTotalOrder}
use Rattle.std.specs.FinMap.Entries.{is_sorted, below_all}
use Rattle.std.proofs.lemmas.List.Concat.{flat_map-cons}
use Rattle.ox_bytes.specs.Reading.{◌>>=◌, Reader, unless}
use Rattle.ox_bytes.proofs.Laws.{IsBytes, bind_ok, ok_is, Takes, Takes-then, Law, unless_law}
use Rattle.ox_rows.specs.Reading.{falls, rising_at}

-- each key is behind the one before, the first one behind the last before them
abbrev pub RisesFrom : {K X : Type 0} → (K → K → Ordering) → Option K → List (K × X) → Type 0
RisesFrom cmp last [] = Unit {0}
RisesFrom cmp last (e ∷ es) = (falls cmp last e.0 ≡ false) × RisesFrom cmp (Some e.0) es

abbrev pub item_of : {K X : Type 0} → (K → List ℕ) → (X → List ℕ) → K × X → List ℕ
item_of sk sx e = sk e.0 ++ sx e.1

abbrev pub FitsItem : {K X : Type 0} → (K → Type 0) → (X → Type 0) → K × X → Type 0
FitsItem FK FX e = FK e.0 × FX e.1

pub record Rows {K X : Type 0} (cmp : K → K → Ordering) (FK : K → Type 0) (FX : X → Type 0) (last : Option K) (n : ℕ) (rows : List (K × X)) : Type 0 where
  pub count : length rows ≡ n
  pub each : AllByRecursion (FitsItem FK FX) rows
  pub rising : RisesFrom cmp last rows

module _ {K X : Type 0} (cmp : K → K → Ordering) (FK : K → Type 0) (FX : X → Type 0) (sk : K → List ℕ) (sx : X → List ℕ) (rk : Reader K) (rx : Reader X) (lk : Law FK sk rk) (lx : Law FX sx rx) where
  rows_take : (n : ℕ) (last : Option K) (bytes : List ℕ) (z : List (K × X) × List ℕ) → IsBytes bytes → rising_at cmp rk rx last n bytes ≡ Ok z → Takes bytes (flat_map (item_of sk sx) z.0) z.1 × Rows cmp FK FX last n z.0
  unfolding rising_at
  rows_take zero last bytes z fits e =
      subst (λ (y : List (K × X) × List ℕ). Takes bytes (flat_map (item_of sk sx) y.0) y.1 × Rows cmp FK FX last 0 y.0) (ok_is {F = ℕ} ([], bytes) z e) (record { parts = refl; rest_fits = fits }, record { count = refl; each = tt; rising = tt })
  rows_take (suc n) last bytes z fits e =
      let a = bind_ok (unless (falls cmp last) rk bytes) (λ at. rx at.1 >>= λ row. rising_at cmp rk rx (Some at.0) n row.1 >>= λ rows. Ok ((at.0, row.0) ∷ rows.0, rows.1)) z e in
      let b = bind_ok (rx a.0.1) (λ row. rising_at cmp rk rx (Some a.0.0) n row.1 >>= λ rows. Ok ((a.0.0, row.0) ∷ rows.0, rows.1)) z a.2 in
      let c = bind_ok (rising_at cmp rk rx (Some a.0.0) n b.0.1) (λ rows. Ok ((a.0.0, b.0.0) ∷ rows.0, rows.1)) z b.2 in
      let ta = (unless_law (falls cmp last) FK sk rk lk).takes bytes a.0 fits a.1 in
      let tb = lx.takes a.0.1 b.0 ta.0.rest_fits b.1 in
      let tc = rows_take n (Some a.0.0) b.0.1 c.0 tb.0.rest_fits c.1 in
      let first = Takes-then bytes (sk a.0.0) a.0.1 (sx b.0.0) b.0.1 ta.0 tb.0 in
      let whole = Takes-then bytes (sk a.0.0 ++ sx b.0.0) b.0.1 (flat_map (item_of sk sx) c.0.0) c.0.1 first tc.0 in
      subst (λ (y : List (K × X) × List ℕ). Takes bytes (flat_map (item_of sk sx) y.0) y.1 × Rows cmp FK FX last (suc n) y.0) (ok_is {F = ℕ} ((a.0.0, b.0.0) ∷ c.0.0, c.0.1) z c.2)
      (rw flat_map-cons whole, record { count = ap suc tc.1.count; each = ((ta.1.0, tb.1), tc.1.each); rising = (ta.1.1, tc.1.rising) })

  rows_again : (es : List (K × X)) (last : Option K) (rest : List ℕ) → AllByRecursion (FitsItem FK FX) es → RisesFrom cmp last es → rising_at cmp rk rx last (length es) (flat_map (item_of sk sx) es ++ rest) ≡ Ok (es, rest)
  unfolding rising_at
  rows_again [] last rest each rising = refl
  rows_again (e ∷ es) last rest each rising =
      let more = flat_map (item_of sk sx) es ++ rest in
      let regrouped : flat_map (item_of sk sx) (e ∷ es) ++ rest ≡ sk e.0 ++ (sx e.1 ++ more) =
      ap (λ (t : List ℕ). t ++ rest) (flat_map-cons (item_of sk sx) e es) ∙ append_assoc (item_of sk sx e) (flat_map (item_of sk sx) es) rest ∙ append_assoc (sk e.0) (sx e.1) more in
      ap (rising_at cmp rk rx last (suc (length es))) regrouped
      ∙ rw ((unless_law (falls cmp last) FK sk rk lk).again e.0 (sx e.1 ++ more) (each.0.0, rising.0), lx.again e.1 more each.0.1, rows_again es (Some e.0) rest each.1 rising.1) refl

  -- a number of items, and these
  abbrev pub FitsRows : (ℕ → Type 0) → List (K × X) → Type 0
  FitsRows FN es = FN (length es) × AllByRecursion (FitsItem FK FX) es × RisesFrom cmp None es

  pub rows_law : (FN : ℕ → Type 0) (sn : ℕ → List ℕ) (rn : Reader ℕ) → Law FN sn rn
      → Law (FitsRows FN) (λ (es : List (K × X)). sn (length es) ++ flat_map (item_of sk sx) es) (λ bytes. rn bytes >>= λ n. rising_at cmp rk rx None n.0 n.1)
  rows_law FN sn rn ln = record {
    takes = λ bytes z fits e.
        let n = bind_ok (rn bytes) (λ x. rising_at cmp rk rx None x.0 x.1) z e in
        let tn = ln.takes bytes n.0 fits n.1 in
        let t = rows_take n.0.0 None n.0.1 z tn.0.rest_fits n.2 in
        let whole = Takes-then bytes (sn n.0.0) n.0.1 (flat_map (item_of sk sx) z.0) z.1 tn.0 t.0 in
        (subst (λ (k : ℕ). Takes bytes (sn k ++ flat_map (item_of sk sx) z.0) z.1) (sym t.1.count) whole, (subst FN (sym t.1.count) tn.1, t.1.each, t.1.rising));
    again = λ es rest fits.
        ap (λ (bytes : List ℕ). rn bytes >>= λ n. rising_at cmp rk rx None n.0 n.1) (append_assoc (sn (length es)) (flat_map (item_of sk sx) es) rest)
        ∙ rw (ln.again (length es) (flat_map (item_of sk sx) es ++ rest) fits.0) (rows_again es None rest fits.1 fits.2);
  }

-- ---- keys that rise

pub lt_is : (r : Ordering) → not (is_lt r) ≡ false → is_lt r ≡ true
lt_is Less e = refl
lt_is Equal e = absurd cc
lt_is Greater e = absurd cc

lt_not : (r : Ordering) → is_lt r ≡ true → not (is_lt r) ≡ false
lt_not Less e = refl
lt_not Equal e = absurd cc
lt_not Greater e = absurd cc

pub less_is : (r : Ordering) → is_lt r ≡ true → r ≡ Less
less_is Less e = refl
less_is Equal e = absurd cc
less_is Greater e = absurd cc

both_are : (a b : Bool) → a ≡ true → b ≡ true → (a && b) ≡ true
both_are true b p q = q
both_are false b p q = absurd cc

first_is : (a b : Bool) → (a && b) ≡ true → a ≡ true
first_is true b p = refl
first_is false b p = absurd cc

pub second_true : (a b : Bool) → (a && b) ≡ true → b ≡ true
second_true true b p = p
second_true false b p = absurd cc

module _ {K X : Type 0} {R : K → K → Ordering} (o : IsTotalOrder R) where
  below_more : (x y : K) (es : List (K × X)) → R x y ≡ Less → below_all R y es ≡ true → below_all R x es ≡ true
  below_more x y [] lt h = refl
  below_more x y (e ∷ es) lt h =
      let here : R y e.0 ≡ Less = less_is (R y e.0) (first_is (is_lt (R y e.0)) (below_all R y es) h) in
      both_are (is_lt (R x e.0)) (below_all R x es) (ap is_lt (o.trans x y e.0 lt here)) (below_more x y es lt (second_true (is_lt (R y e.0)) (below_all R y es) h))

  behind_sorted : (last : K) (es : List (K × X)) → RisesFrom R (Some last) es → (below_all R last es ≡ true) × (is_sorted R es ≡ true)
  behind_sorted last [] h = (refl, refl)
  behind_sorted last (e ∷ es) h =
      let rest = behind_sorted e.0 es h.1 in
      let lt : is_lt (R last e.0) ≡ true = lt_is (R last e.0) h.0 in
      (both_are (is_lt (R last e.0)) (below_all R last es) lt (below_more last e.0 es (less_is (R last e.0) lt) rest.0), both_are (below_all R e.0 es) (is_sorted R es) rest.0 rest.1)

  pub sorted_from_rises : (es : List (K × X)) → RisesFrom R None es → IsTrue (is_sorted R es)
  sorted_from_rises [] h = refl
  sorted_from_rises (e ∷ es) h =
      let rest = behind_sorted e.0 es h.1 in
      both_are (below_all R e.0 es) (is_sorted R es) rest.0 rest.1

  rises_behind : (last : K) (es : List (K × X)) → below_all R last es ≡ true → is_sorted R es ≡ true → RisesFrom R (Some last) es
  rises_behind last [] b s = tt
  rises_behind last (e ∷ es) b s =
      (lt_not (R last e.0) (first_is (is_lt (R last e.0)) (below_all R last es) b), rises_behind e.0 es (first_is (below_all R e.0 es) (is_sorted R es) s) (second_true (below_all R e.0 es) (is_sorted R es) s))

  pub rises_from_sorted : (es : List (K × X)) → IsTrue (is_sorted R es) → RisesFrom R None es
  rises_from_sorted [] h = tt
  rises_from_sorted (e ∷ es) h = (refl, rises_behind e.0 es (first_is (below_all R e.0 es) (is_sorted R es) h) (second_true (below_all R e.0 es) (is_sorted R es) h))

  all_below : (x : K) (es : List (K × X)) → below_all R x es ≡ true → AllByRecursion (λ y. R x y ≡ Less) (keys_of es)
  all_below x [] h = tt
  all_below x (e ∷ es) h = (less_is (R x e.0) (first_is (is_lt (R x e.0)) (below_all R x es) h), all_below x es (second_true (is_lt (R x e.0)) (below_all R x es) h))

  pub keys_rise : (es : List (K × X)) → IsTrue (is_sorted R es) → IsStrictlySortedBy R (keys_of es)
  unfolding IsStrictlySortedBy
  keys_rise [] h = tt
  keys_rise (e ∷ es) h = (all_below e.0 es (first_is (below_all R e.0 es) (is_sorted R es) h), keys_rise es (second_true (below_all R e.0 es) (is_sorted R es) h))

  below_all_is : (x : K) (es : List (K × X)) → AllByRecursion (λ y. R x y ≡ Less) (keys_of es) → below_all R x es ≡ true
  below_all_is x [] h = refl
  below_all_is x (e ∷ es) h = both_are (is_lt (R x e.0)) (below_all R x es) (ap is_lt h.0) (below_all_is x es h.1)

  pub sorted_by_keys : (es : List (K × X)) → IsStrictlySortedBy R (keys_of es) → IsTrue (is_sorted R es)
  unfolding IsStrictlySortedBy
  sorted_by_keys [] h = refl
  sorted_by_keys (e ∷ es) h = both_are (below_all R e.0 es) (is_sorted R es) (below_all_is e.0 es h.0) (sorted_by_keys es h.1)
