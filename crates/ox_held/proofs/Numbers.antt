-- Numbers that rise are told by which there are.
use Rattle.std.proofs.Common.{◌≡◌, ◌∙◌, ℕ, ◌<◌, ◌≤◌, ◌==◌, Bool, true, false, List, [], ◌∷◌, refl, sym, ap, ap₂, subst, arith, ⊎_elim}
use Rattle.std.specs.Prelude.{◌||◌}
use Rattle.std.specs.Cmp.{ranked}
use Rattle.std.specs.List.{AllByRecursion}
use Rattle.std.specs.List.Sorted.{IsStrictlySortedBy}
use Rattle.std.specs.Ordering.{nat_cmp}
use Rattle.std.specs.declared.cmp.Ordering.TheVariants.{Less}
use Rattle.std.proofs.lemmas.Bool.{cases_eq, eq-eqb, ne_eqb, or_from, or_left}
use Rattle.ox_inscribe.specs.Numbers.{is_among}

abbrev Above : ℕ → List ℕ → Type 0
Above low xs = AllByRecursion (λ n. nat_cmp low n ≡ Less) xs

-- a number isn't among those above it
none_above : (n low : ℕ) (xs : List ℕ) → n ≤ low → Above low xs → is_among n xs ≡ false
none_above n low [] below above = refl
none_above n low (x ∷ xs) below above =
    let less : low < x = ranked low x Less (sym above.0) in
    or_from _ _ (ne_eqb x n (λ (e : x ≡ n). omega (arith, e, less, below))) (none_above n low xs below above.1)

here : (x : ℕ) (xs : List ℕ) → is_among x (x ∷ xs) ≡ true
here x xs = or_left _ _ (eq-eqb x x refl)

apart : (b : Bool) → b ≡ true → b ≡ false → ⊥
apart b p q = cc (p, q)

-- the first of some isn't below the first of others that are the same
not_below : (x y : ℕ) (xs ys : List ℕ) → Above y ys → is_among x (x ∷ xs) ≡ is_among x (y ∷ ys) → x < y → ⊥
not_below x y xs ys above same less =
    apart (is_among x (y ∷ ys)) (sym same ∙ here x xs)
    (or_from _ _ (ne_eqb y x (λ (e : y ≡ x). omega (arith, e, less))) (none_above x y ys (omega (arith, less)) above))

-- the others are the same too
others : (x n : ℕ) (xs ys : List ℕ) → Above x xs → Above x ys → is_among n (x ∷ xs) ≡ is_among n (x ∷ ys) → is_among n xs ≡ is_among n ys
others x n xs ys up rise same = ⊎_elim
    (λ (e : x ≡ n). none_above n x xs (omega (arith, e)) up ∙ sym (none_above n x ys (omega (arith, e)) rise))
    (λ other. let test : (x == n) ≡ false = ne_eqb x n other in
    ap (λ (b : Bool). b || is_among n xs) (sym test) ∙ same ∙ ap (λ (b : Bool). b || is_among n ys) test)
    (cases_eq x n)

pub same_numbers : (xs ys : List ℕ) → IsStrictlySortedBy nat_cmp xs → IsStrictlySortedBy nat_cmp ys → ((n : ℕ) → is_among n xs ≡ is_among n ys) → xs ≡ ys
unfolding IsStrictlySortedBy
same_numbers [] [] up rise same = refl
same_numbers [] (y ∷ ys) up rise same = absurd (apart (is_among y (y ∷ ys)) (here y ys) (sym (same y)))
same_numbers (x ∷ xs) [] up rise same = absurd (apart (is_among x (x ∷ xs)) (here x xs) (same x))
same_numbers (x ∷ xs) (y ∷ ys) up rise same =
    let first : x ≡ y = omega (arith, not_below x y xs ys rise.0 (same x), not_below y x ys xs up.0 (sym (same y))) in
    let P : ℕ → Type 0 = λ z. Above z ys × ((n : ℕ) → is_among n (x ∷ xs) ≡ is_among n (z ∷ ys)) in
    let moved = subst P (sym first) (rise.0, same) in
    ap₂ (λ n ns. n ∷ ns) first (same_numbers xs ys up.1 rise.1 (λ n. others x n xs ys up.0 moved.0 (moved.1 n)))
