use Rattle.std.proofs.Common.{inl, inr, ◌≡◌, ◌∙◌, ◌<◌, ◌≤◌, ℕ, zero, suc, Bool, true, false, List, [], ◌∷◌, length, take, refl, sym, ap, subst, arith, nat_lt, rules}
use Rattle.std.specs.Prelude.{◌⊎◌, filter}
use Rattle.std.specs.List.{AllWithin, slice_index_or}
use Rattle.std.specs.List.Sorted.{IsStrictlyIncreasing, IsNonDecreasing, IsPartitionPoint}
use Rattle.std.proofs.lemmas.Bool.{cases_lt, cond-false, cond-true}
use Rattle.std.proofs.lemmas.List.Kept.{AllPairs-from_increasing}
use Rattle.std.proofs.lemmas.List.Sorted.{IsPartitionPoint-from_clause, IsPartitionedBy-ltb}
use Rattle.ox_asof.proofs.cut.numbers_below.Goals as goal

front_passes : (p : ℕ → Bool) (xs : List ℕ) (i : ℕ) → AllWithin (λ (x : ℕ). p x ≡ true) xs 0 i → AllWithin (λ (x : ℕ). p x ≡ false) xs i (length xs) → i ≤ length xs → take i xs ≡ filter p xs
front_passes p [] zero pass fail within = refl
front_passes p [] (suc i) pass fail within = refl
front_passes p (x ∷ xs) zero pass fail within =
    front_passes p xs zero (λ k d low high. absurd (omega arith)) (λ k d low high. fail (suc k) d (omega arith) (omega arith)) (omega arith)
    ∙ sym (cond-false (p x) (x ∷ filter p xs) (filter p xs) (fail 0 x (omega arith) (omega arith)))
front_passes p (x ∷ xs) (suc i) pass fail within =
    ap (λ (rest : List ℕ). x ∷ rest) (front_passes p xs i (λ k d low high. pass (suc k) d (omega arith) (omega arith)) (λ k d low high. fail (suc k) d (omega arith) (omega arith)) (omega arith))
    ∙ sym (cond-true (p x) (x ∷ filter p xs) (filter p xs) (pass 0 x (omega arith) (omega arith)))

non_falling : (xs : List ℕ) → IsStrictlyIncreasing xs → IsNonDecreasing xs
non_falling xs up = λ i j d le within. by_order i j d le within (cases_lt i j) where
  by_order : (i j d : ℕ) → i ≤ j → j < length xs → (i < j) ⊎ (j ≤ i) → slice_index_or xs i d ≤ slice_index_or xs j d
  by_order i j d le within (inl less) = let rise : slice_index_or xs i d < slice_index_or xs j d = AllPairs-from_increasing xs up i j d less within in omega arith
  by_order i j d le within (inr no_less) = let same : i ≡ j = omega arith in subst (λ (k : ℕ). slice_index_or xs i d ≤ slice_index_or xs k d) same (omega arith)

pub returns : goal.returns
returns c =
    let xs = c.args.numbers.now in
    let below = λ (n : ℕ). nat_lt n c.args.end in
    let point : IsPartitionPoint (λ (n : ℕ). below n ≡ true) (λ (n : ℕ). below n ≡ false) xs c.partition_point-len.result =
    IsPartitionPoint-from_clause below xs c.partition_point-len.result c.partition_point-len.ensures.partitioned (IsPartitionedBy-ltb (λ (n : ℕ). n) xs c.args.end (non_falling xs c.requires)) (λ a r q k. search rules) in
    c.split_at.ensures.front ∙ front_passes below xs c.partition_point-len.result point.0 point.1 c.partition_point-len.ensures.bound
