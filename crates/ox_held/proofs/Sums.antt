-- The values at some keys of a finite map add up to no more than all its values do.
use Rattle.std.proofs.Common.{◌≡◌, ◌∙◌, ℕ, ◌+◌, ◌≤◌, Bool, true, false, cond, List, [], ◌∷◌, refl, sym, ap, ap₂, arith, Option, Some, None, Ordering}
use Rattle.std.specs.List.{AllByRecursion}
use Rattle.std.specs.List.Sorted.{IsStrictlySortedBy}
use Rattle.std.specs.Option.{option_map_or}
use Rattle.std.specs.Ordering.{eq_by_cmp, is_eq}
use Rattle.std.specs.declared.cmp.Ordering.TheVariants.{Less, Equal, Greater}
use Rattle.std.specs.Cmp.{IsTotalOrder, eq_by_cmp_equiv}
use Rattle.std.specs.FinMap.{FinMap, IsAntisymmetric, entries, get, get-remove, remove, same_map}
use Rattle.ox_rules.proofs.MapSums.{total, total_remove}

tie : (r : Ordering) → is_eq r ≡ true → r ≡ Equal
tie Less is = absurd (cc is)
tie Equal is = refl
tie Greater is = absurd (cc is)

none_there : {X : Type 0} (found : Option X) (b : Bool) → (b ≡ true → found ≡ None) → cond b None found ≡ found
none_there found true none = sym (none refl)
none_there found false none = refl

module _ {K X : Type 0} {R : K → K → Ordering} (o : IsTotalOrder R) (same : IsAntisymmetric R) (f : X → ℕ) where
  -- what the values at some keys add up to
  abbrev pub total_at : FinMap R X → List K → ℕ
  total_at m [] = 0
  total_at m (k ∷ ks) = option_map_or f (get m k) 0 + total_at m ks

  nothing_out : (m : FinMap R X) (k : K) → get m k ≡ None → remove m k ≡ m
  nothing_out m k none = same_map o same (remove m k) m (λ q.
      get-remove o m k q
      ∙ none_there (get m q) (eq_by_cmp R q k) (λ is. ap (get m) (same q k (tie (R q k) is)) ∙ none))

  taken_out : (m : FinMap R X) (k : K) → total o f (entries (remove m k)) + option_map_or f (get m k) 0 ≡ total o f (entries m)
  taken_out m k = by (get m k) refl where
    by : (found : Option X) → get m k ≡ found → total o f (entries (remove m k)) + option_map_or f found 0 ≡ total o f (entries m)
    by None none = let all = ap (λ (n : FinMap R X). total o f (entries n)) (nothing_out m k none) in omega (arith, all)
    by (Some v) there = total_remove o same f m k v there

  apart : (m : FinMap R X) (k q : K) → R k q ≡ Less → get (remove m k) q ≡ get m q
  apart m k q less =
      get-remove o m k q ∙ ap (λ (b : Bool). cond b None (get m q)) ((eq_by_cmp_equiv o).symm q k ∙ ap is_eq less)

  others_stay : (m : FinMap R X) (k : K) (ks : List K) → AllByRecursion (λ q. R k q ≡ Less) ks → total_at (remove m k) ks ≡ total_at m ks
  others_stay m k [] above = refl
  others_stay m k (q ∷ ks) above =
      ap₂ (λ a b. a + b) (ap (λ (found : Option X). option_map_or f found 0) (apart m k q above.0)) (others_stay m k ks above.1)

  pub at_most_all : (ks : List K) (m : FinMap R X) → IsStrictlySortedBy R ks → total_at m ks ≤ total o f (entries m)
  unfolding IsStrictlySortedBy
  at_most_all [] m rising = omega arith
  at_most_all (k ∷ ks) m rising =
      let rest = at_most_all ks (remove m k) rising.1 in
      let stay = others_stay m k ks rising.0 in
      let out = taken_out m k in
      omega (arith, rest, stay, out)
