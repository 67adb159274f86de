-- The laws of keys that are a transaction's id and an index.
use Rattle.std.proofs.Common.{◌≡◌, ◌∙◌, ℕ, List, true, ap, refl, Ordering}
use Rattle.std.specs.Ordering.{is_eq, nat_cmp, ordering_then}
use Rattle.std.specs.declared.cmp.Ordering.TheVariants.{Less, Equal, Greater}
use Rattle.std.specs.Cmp.Lexicographic.{slice_cmp}
use Rattle.std.specs.FinMap.{nat_cmp-IsAntisymmetric, slice_cmp-IsAntisymmetric}
use Rattle.ox_shards.specs.Keys.{spread_of, tag_of}

-- the order of a transaction's id and an index: by the bytes of the id, and then by the index
abbrev pub order : List ℕ → List ℕ → ℕ → ℕ → Ordering
order a b i j = ordering_then (slice_cmp nat_cmp a b) (nat_cmp i j)

left_tie : (r s : Ordering) → is_eq (ordering_then r s) ≡ true → r ≡ Equal
left_tie Less s is = absurd (cc is)
left_tie Equal s is = refl
left_tie Greater s is = absurd (cc is)

right_tie : (r s : Ordering) → is_eq (ordering_then r s) ≡ true → s ≡ Equal
right_tie Less s is = absurd (cc is)
right_tie Equal Less is = absurd (cc is)
right_tie Equal Equal is = refl
right_tie Equal Greater is = absurd (cc is)
right_tie Greater s is = absurd (cc is)

-- what such a key gives is the same where it compares equal
same : (f : List ℕ → ℕ → ℕ) (a b : List ℕ) (i j : ℕ) → is_eq (order a b i j) ≡ true
    → f a i ≡ f b j
same f a b i j equal =
    ap (λ id. f id i) (slice_cmp-IsAntisymmetric nat_cmp-IsAntisymmetric a b (left_tie _ _ equal))
    ∙ ap (f b) (nat_cmp-IsAntisymmetric i j (right_tie _ _ equal))

-- such keys that are equal are spread by one number
pub ids_alike : (a b : List ℕ) (i j : ℕ) → is_eq (order a b i j) ≡ true
    → spread_of a i ≡ spread_of b j
ids_alike a b i j = same spread_of a b i j

-- such keys that are equal have one tag
pub ids_tagged : (a b : List ℕ) (i j : ℕ) → is_eq (order a b i j) ≡ true
    → tag_of a i ≡ tag_of b j
ids_tagged a b i j = same tag_of a b i j

-- what two numbers give is the same where they compare equal, one by one
pub numbers_alike : (f : ℕ → ℕ → ℕ) (a b i j : ℕ)
    → is_eq (ordering_then (nat_cmp a b) (nat_cmp i j)) ≡ true → f a i ≡ f b j
numbers_alike f a b i j equal =
    ap (λ n. f n i) (nat_cmp-IsAntisymmetric a b (left_tie _ _ equal))
    ∙ ap (f b) (nat_cmp-IsAntisymmetric i j (right_tie _ _ equal))

-- what a number gives is the same where it compares equal
pub number_alike : (f : ℕ → ℕ) (a b : ℕ) → is_eq (nat_cmp a b) ≡ true → f a ≡ f b
number_alike f a b equal = ap f (nat_cmp-IsAntisymmetric a b (right_tie Equal _ equal))
