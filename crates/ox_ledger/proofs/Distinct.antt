-- Ids and names of runes stay distinct.
use Rattle.std.proofs.Common.{◌≡◌, ◌≢◌, ◌∙◌, ℕ, zero, suc, List, [], ◌∷◌, ◌++◌, length, map, refl, sym, ap, subst, inl, inr, ◌⊎◌, Option, Some, None, append-nil}
use Rattle.std.specs.Prelude.{slice_get}
use Rattle.std.specs.List.{AllByRecursion, AllZip}
use Rattle.std.specs.Option.{option_map}
use Rattle.std.proofs.lemmas.List.{map-append}
use Rattle.ox_rules.specs.Transfer.{as_list}
use Rattle.ox_allocation.specs.Balances.{Balance}
use Rattle.ox_etching.specs.Etched.{etched}
use Rattle.ox_etching.specs.declared.row.RuneRow.{RuneRow}
use Rattle.ox_ledger.specs.Balanced.{AreDistinct}
use Rattle.ox_ledger.specs.Runes.{Runes}
use Rattle.ox_ledger.specs.Turn.{Adds, Begins, Grows}
use Rattle.ox_ledger.proofs.Fresh.{some_mapped}

-- ---- lists without a double

abbrev pub HasNoDouble : {A : Type 0} → List A → Type 0
HasNoDouble {A} xs = (i j : ℕ) (a b : A) → slice_get xs i ≡ Some a → slice_get xs j ≡ Some b → a ≡ b → i ≡ j

pub get_mapped : {A B : Type 0} (f : A → B) (xs : List A) (i : ℕ) → slice_get (map f xs) i ≡ option_map f (slice_get xs i)
get_mapped f [] i = refl
get_mapped f (x ∷ xs) zero = refl
get_mapped f (x ∷ xs) (suc i) = get_mapped f xs i

pub no_double_of : {A : Type 0} (of : RuneRow → A) (runes : List RuneRow) → AreDistinct of runes → HasNoDouble (map of runes)
no_double_of of runes distinct i j a b here there same =
    let x = some_mapped of (slice_get runes i) a (sym (get_mapped of runes i) ∙ here) in
    let y = some_mapped of (slice_get runes j) b (sym (get_mapped of runes j) ∙ there) in
    distinct i j x.0 y.0 x.1 y.1 (x.2 ∙ same ∙ sym y.2)

pub distinct_of : {A : Type 0} (of : RuneRow → A) (runes : List RuneRow) → HasNoDouble (map of runes) → AreDistinct of runes
distinct_of of runes none i j a b here there same =
    none i j (of a) (of b) (get_mapped of runes i ∙ ap (option_map of) here) (get_mapped of runes j ∙ ap (option_map of) there) same

-- what stands at a place of a longer list
at_place : {A : Type 0} (xs : List A) (x : A) (i : ℕ) (a : A) → slice_get (xs ++ x ∷ []) i ≡ Some a → (slice_get xs i ≡ Some a) ⊎ ((i ≡ length xs) × (a ≡ x))
at_place [] x zero a is = let some : Some x ≡ Some a = is in let same : x ≡ a = cc some in inr (refl, sym same)
at_place [] x (suc i) a is = let none : None ≡ Some a = is in absurd (cc none)
at_place (y ∷ xs) x zero a is = inl is
at_place (y ∷ xs) x (suc i) a is = elim (at_place xs x i a is) [ inl there ↦ inl there | inr last ↦ inr (ap suc last.0, last.1) ]

each_at : {A : Type 0} (P : A → Type 0) (xs : List A) (i : ℕ) (a : A) → AllByRecursion P xs → slice_get xs i ≡ Some a → P a
each_at P [] i a all is = let none : None ≡ Some a = is in absurd (cc none)
each_at P (x ∷ xs) zero a all is = let some : Some x ≡ Some a = is in let same : x ≡ a = cc some in subst P same all.0
each_at P (x ∷ xs) (suc i) a all is = each_at P xs i a all.1 is

no_double_more : {A : Type 0} (xs : List A) (x : A) → HasNoDouble xs → AllByRecursion (λ y. y ≢ x) xs → HasNoDouble (xs ++ x ∷ [])
no_double_more {A} xs x none other i j a b here there same = by_places (at_place xs x i a here) (at_place xs x j b there) where
  by_places : (slice_get xs i ≡ Some a) ⊎ ((i ≡ length xs) × (a ≡ x)) → (slice_get xs j ≡ Some b) ⊎ ((j ≡ length xs) × (b ≡ x)) → i ≡ j
  by_places (inl p) (inl q) = none i j a b p q same
  by_places (inl p) (inr q) = absurd (each_at (λ (y : A). y ≢ x) xs i a other p (same ∙ q.1))
  by_places (inr p) (inl q) = absurd (each_at (λ (y : A). y ≢ x) xs j b other q (sym same ∙ p.1))
  by_places (inr p) (inr q) = p.0 ∙ sym q.0

-- ---- what never changes of runes

-- what a rune has whatever was counted of it
abbrev pub IsFixed : {A : Type 0} → (RuneRow → A) → Type 0
IsFixed of = (row : RuneRow) (n m : ℕ) → of (record row { mints = n; burned = m }) ≡ of row

grown_same : {A : Type 0} (of : RuneRow → A) → IsFixed of → (mint : Option Balance) (before after : Runes) (xs zs : List RuneRow)
    → AllZip (Grows mint before after) xs zs → map of zs ≡ map of xs
grown_same of still mint before after [] [] grows = refl
grown_same of still mint before after [] (z ∷ zs) grows = absurd grows
grown_same of still mint before after (x ∷ xs) [] grows = absurd grows
grown_same of still mint before after (x ∷ xs) (z ∷ zs) grows =
    let first = ap of grows.0.stays ∙ still x z.mints z.burned in
    let rest = grown_same of still mint before after xs zs grows.1 in
    λ i. first i ∷ rest i

begun_same : {A : Type 0} (of : RuneRow → A) → IsFixed of → (after : Runes) (xs zs : List RuneRow) → AllZip (Begins after) xs zs → map of zs ≡ map of xs
begun_same of still after [] [] begins = refl
begun_same of still after [] (z ∷ zs) begins = absurd begins
begun_same of still after (x ∷ xs) [] begins = absurd begins
begun_same of still after (x ∷ xs) (z ∷ zs) begins =
    let first = ap of begins.0.stays ∙ still x z.mints z.burned in
    let rest = begun_same of still after xs zs begins.1 in
    λ i. first i ∷ rest i

pub same_after : {A : Type 0} (of : RuneRow → A) → IsFixed of → (mint : Option Balance) (etching : Option RuneRow) (before after : Runes) → Adds mint etching before after
    → map of after.runes ≡ map of before.runes ++ map of (as_list etching)
same_after of still mint etching before after adds =
    let front = grown_same of still mint before after before.runes adds.earlier adds.grows in
    let back = begun_same of still after (as_list etching) adds.last adds.begins in
    ap (map of) adds.runes ∙ map-append of adds.earlier adds.last ∙ (λ i. front i ++ back i)

-- none of the runes has what the one that is etched has
abbrev pub NoneLike : {A : Type 0} → (RuneRow → A) → Option RuneRow → List RuneRow → Type 0
NoneLike of None runes = Unit {0}
NoneLike of (Some etched) runes = AllByRecursion (λ (row : RuneRow). of row ≢ of etched) runes

mapped_other : {A : Type 0} (of : RuneRow → A) (x : A) (runes : List RuneRow) → AllByRecursion (λ (row : RuneRow). of row ≢ x) runes → AllByRecursion (λ (y : A). y ≢ x) (map of runes)
mapped_other of x [] all = tt
mapped_other of x (row ∷ runes) all = (all.0, mapped_other of x runes all.1)

no_double_with : {A : Type 0} (of : RuneRow → A) (etching : Option RuneRow) (runes : List RuneRow) → HasNoDouble (map of runes) → NoneLike of etching runes
    → HasNoDouble (map of runes ++ map of (as_list etching))
no_double_with {A} of None runes none other = let P : List A → Type 0 = λ xs. HasNoDouble xs in subst P (sym (append-nil (map of runes))) none
no_double_with of (Some etched) runes none other = no_double_more (map of runes) (of etched) none (mapped_other of (of etched) runes other)

pub stays_distinct : {A : Type 0} (of : RuneRow → A) → IsFixed of → (mint : Option Balance) (etching : Option RuneRow) (before after : Runes) → Adds mint etching before after
    → AreDistinct of before.runes → NoneLike of etching before.runes → AreDistinct of after.runes
stays_distinct {A} of still mint etching before after adds distinct other =
    let P : List A → Type 0 = λ xs. HasNoDouble xs in
    distinct_of of after.runes (subst P (sym (same_after of still mint etching before after adds))
    (no_double_with of etching before.runes (no_double_of of before.runes distinct) other))
