-- What holds of each item of a list, behind those before it.
use Rattle.std.proofs.Common.{◌≡◌, ◌≤◌, ℕ, zero, suc, ◌+◌, List, [], ◌∷◌, ◌++◌, Some, sym, subst, arith, append_assoc}
use Rattle.std.specs.Prelude.{slice_get, All}
use Rattle.std.specs.List.{AllPairs}
use Rattle.std.proofs.lemmas.List.{append-nil}
use Rattle.std.proofs.lemmas.List.Elements.{All-nil, All-cons}
use Rattle.std.proofs.lemmas.List.Kept.{AllPairs-cons}
use Rattle.std.proofs.lemmas.Option.{same_Some}

module _ {A : Type 0} where
  abbrev pub Each : (List A → A → Type 0) → List A → List A → Type 0
  Each P before [] = Unit {0}
  Each P before (a ∷ list) = P before a × Each P (before ++ a ∷ []) list

  pub each_more : (P : List A → A → Type 0) (before list : List A) (a : A) → Each P before list → P (before ++ list) a → Each P before (list ++ a ∷ [])
  each_more P before [] a each is = (subst (λ (l : List A). P l a) (append-nil before) is, tt)
  each_more P before (b ∷ list) a each is = (each.0, each_more P (before ++ b ∷ []) list a each.1 (subst (λ (l : List A). P l a) (sym (append_assoc before (b ∷ []) list)) is))

  pub each_at : (P : List A → A → Type 0) (start before after : List A) (a : A) → Each P start (before ++ a ∷ after) → P (start ++ before) a
  each_at P start [] after a each = subst (λ (l : List A). P l a) (sym (append-nil start)) each.0
  each_at P start (b ∷ before) after a each = subst (λ (l : List A). P l a) (append_assoc start (b ∷ []) before) (each_at P (start ++ b ∷ []) before after a each.1)

  -- behind so many
  abbrev pub EachNumber : (ℕ → A → Type 0) → ℕ → List A → Type 0
  EachNumber Q n [] = Unit {0}
  EachNumber Q n (a ∷ list) = Q n a × EachNumber Q (suc n) list

  pub number_at : (Q : ℕ → A → Type 0) (n j : ℕ) (list : List A) (a : A) → EachNumber Q n list → slice_get list j ≡ Some a → Q (n + j) a
  number_at Q n j [] a each is = absurd (cc is)
  number_at Q n zero (b ∷ list) a each is = subst (λ (x : A). Q (n + zero) x) (same_Some b a is) (subst (λ (k : ℕ). Q k b) (let e : n ≡ n + zero = omega arith in e) each.0)
  number_at Q n (suc j) (b ∷ list) a each is = subst (λ (k : ℕ). Q k a) (let e : suc n + j ≡ n + suc j = omega arith in e) (number_at Q (suc n) j list a each.1 is)

  -- P holds of each item
  abbrev pub AllOf : (A → Type 0) → List A → Type 0
  AllOf P [] = Unit {0}
  AllOf P (a ∷ list) = P a × AllOf P list

  pub all_from : (P : A → Type 0) (list : List A) → AllOf P list → All P list
  all_from P [] all = All-nil P
  all_from P (a ∷ list) all = All-cons P a list all.0 (all_from P list all.1)

  pub all_more : (P : A → Type 0) (list : List A) (a : A) → AllOf P list → P a → AllOf P (list ++ a ∷ [])
  all_more P [] a all is = (is, tt)
  all_more P (b ∷ list) a all is = (all.0, all_more P list a all.1 is)

  -- none is greater than a later one
  abbrev pub Rises : (A → ℕ) → List A → Type 0
  Rises f [] = Unit {0}
  Rises f (a ∷ list) = AllOf (λ (b : A). f a ≤ f b) list × Rises f list

  pub rises_more : (f : A → ℕ) (list : List A) (a : A) → Rises f list → AllOf (λ (b : A). f b ≤ f a) list → Rises f (list ++ a ∷ [])
  rises_more f [] a rises below = (tt, tt)
  rises_more f (b ∷ list) a rises below = (all_more (λ (x : A). f b ≤ f x) list a rises.0 below.0, rises_more f list a rises.1 below.1)

  pub rises_pairs : (f : A → ℕ) (list : List A) → Rises f list → AllPairs (λ (a b : A). f a ≤ f b) list
  rises_pairs f [] rises = λ i j d i<j j<n. omega (arith, i<j, j<n)
  rises_pairs f (a ∷ list) rises = AllPairs-cons (λ (a b : A). f a ≤ f b) a list (all_from (λ (b : A). f a ≤ f b) list rises.0) (rises_pairs f list rises.1)

pub slice_get-front : {A : Type 0} (x y : List A) (j : ℕ) (a : A) → slice_get x j ≡ Some a → slice_get (x ++ y) j ≡ Some a
slice_get-front [] y j a is = absurd (cc is)
slice_get-front (b ∷ x) y zero a is = is
slice_get-front (b ∷ x) y (suc j) a is = slice_get-front x y j a is
