-- What the values of a finite map add up to, after an insertion and after a removal.
use Rattle.std.proofs.Common.{◌≡◌, ◌∙◌, ℕ, ◌+◌, Bool, true, false, cond, T, List, [], ◌∷◌, refl, sym, ap, subst, arith, Option, Some, None, Ordering}
use Rattle.std.specs.Prelude.{◌&&◌}
use Rattle.std.specs.Option.{option_map_or}
use Rattle.std.specs.Ordering.{is_lt, is_eq, eq_by_cmp}
use Rattle.std.specs.declared.cmp.Ordering.TheVariants.{Less, Equal, Greater}
use Rattle.std.specs.Cmp.{IsTotalOrder, tied_itself}
use Rattle.std.specs.FinMap.{FinMap, IsAntisymmetric, entries, entries_sorted, get, insert, remove, entries-insert, get-entries, get-insert, get-remove, get_tied, same_map}
use Rattle.std.specs.FinMap.Entries.{find, put, by_order, below_all, is_sorted}

first : (a b : Bool) → T (a && b) → T a
first true b p = tt
first false b p = absurd p

second : (a b : Bool) → T (a && b) → T b
second true b p = p
second false b p = absurd p

less : (r : Ordering) → T (is_lt r) → r ≡ Less
less Less p = refl
less Equal p = absurd p
less Greater p = absurd p

equal : (r : Ordering) → is_eq r ≡ true → r ≡ Equal
equal Less p = absurd (subst T (sym p) tt)
equal Equal p = refl
equal Greater p = absurd (subst T (sym p) tt)

in_front : (v e es old : ℕ) → old ≡ 0 → v + (e + es) + old ≡ e + es + v
in_front v e es old is = omega arith

in_place : (v e es : ℕ) → v + es + e ≡ e + es + v
in_place v e es = omega arith

behind : (v e es new old : ℕ) → new + old ≡ es + v → e + new + old ≡ e + es + v
behind v e es new old is = omega arith

pub itself : {K : Type 0} {R : K → K → Ordering} → IsTotalOrder R → (k : K) → eq_by_cmp R k k ≡ true
itself o k = ap is_eq (tied_itself o k)

module _ {K X : Type 0} {R : K → K → Ordering} (o : IsTotalOrder R) (f : X → ℕ) where
  abbrev pub total : List (K × X) → ℕ
  total [] = 0
  total (e ∷ es) = f e.1 + total es

  absent : (k x : K) (es : List (K × X)) → R k x ≡ Less → T (below_all R x es) → find R k es ≡ None
  absent k x [] lt h = refl
  absent k x (e ∷ es) lt h =
      let after : R k e.0 ≡ Less = o.trans k x e.0 lt (less _ (first _ _ h)) in
      ap (λ r. cond (is_eq r) (Some e.1) (find R k es)) after ∙ absent k x es lt (second _ _ h)

  total_put : (es : List (K × X)) (k : K) (v : X) → T (is_sorted R es) → total (put R k v es) + option_map_or f (find R k es) 0 ≡ total es + f v
  total_put [] k v h = omega arith
  total_put (e ∷ es) k v h =
      elim (R k e.0) as (λ r. R k e.0 ≡ r → total (by_order r ((k, v) ∷ e ∷ es) ((e.0, v) ∷ es) (e ∷ put R k v es)) + option_map_or f (cond (is_eq r) (Some e.1) (find R k es)) 0 ≡ total (e ∷ es) + f v) [
        | Less ↦ λ is. let none : option_map_or f (find R k es) 0 ≡ 0 = ap (λ x. option_map_or f x 0) (absent k e.0 es is (first _ _ h)) in in_front (f v) (f e.1) (total es) _ none
        | Equal ↦ λ is. in_place (f v) (f e.1) (total es)
        | Greater ↦ λ is. behind (f v) (f e.1) (total es) _ _ (total_put es k v (second _ _ h))
      ] refl

  -- the new value counts for the one that stood there
  pub total_insert : (m : FinMap R X) (k : K) (v : X) → total (entries (insert m k v)) + option_map_or f (get m k) 0 ≡ total (entries m) + f v
  total_insert m k v = rw (entries-insert o m k v, get-entries m k) (total_put (entries m) k v (entries_sorted m))

module _ {K X : Type 0} {R : K → K → Ordering} (o : IsTotalOrder R) (same : IsAntisymmetric R) where
  by_test : (b : Bool) (m : FinMap R X) (k q : K) (v : X) → get m k ≡ Some v → eq_by_cmp R q k ≡ b → cond b (Some v) (cond b None (get m q)) ≡ get m q
  by_test true m k q v there is = sym there ∙ get_tied o m q k (equal _ is)
  by_test false m k q v there is = refl

  -- a value that is taken out and put back
  pub insert-remove : (m : FinMap R X) (k : K) (v : X) → get m k ≡ Some v → insert (remove m k) k v ≡ m
  insert-remove m k v there = same_map o same (insert (remove m k) k v) m (λ q.
      get-insert o (remove m k) k v q ∙ ap (cond (eq_by_cmp R q k) (Some v)) (get-remove o m k q) ∙ by_test _ m k q v there refl)

  gone : (b : Bool) (x : Option X) → b ≡ true → cond b None x ≡ None
  gone true x is = refl
  gone false x is = absurd (cc)

  -- a value that is taken out counts no more
  pub total_remove : (f : X → ℕ) (m : FinMap R X) (k : K) (v : X) → get m k ≡ Some v → total o f (entries (remove m k)) + f v ≡ total o f (entries m)
  total_remove f m k v there =
      let none : get (remove m k) k ≡ None = get-remove o m k k ∙ gone _ _ (itself o k) in
      let sums : total o f (entries (insert (remove m k) k v)) + option_map_or f (get (remove m k) k) 0 ≡ total o f (entries (remove m k)) + f v = total_insert o f (remove m k) k v in
      let same_sum : total o f (entries (insert (remove m k) k v)) ≡ total o f (entries m) = ap (λ (n : FinMap R X). total o f (entries n)) (insert-remove m k v there) in
      let zero : option_map_or f (get (remove m k) k) 0 ≡ 0 = ap (λ (x : Option X). option_map_or f x 0) none in
      omega (arith, sums, same_sum, zero)
