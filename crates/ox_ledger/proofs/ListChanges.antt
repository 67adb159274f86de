-- Values of a list stay where nothing was put since a mark.
use Rattle.std.proofs.Common.{◌≡◌, ◌≢◌, ◌∙◌, ℕ, ◌<◌, Bool, true, false, true≢false, List, [], ◌∷◌, length, refl, sym, ap, subst, Option, Some, None, Bor, arith}
use Rattle.std.specs.Prelude.{◌==◌, ◌||◌, All, IfOk, Result, Ok, Err, slice_get}
use Rattle.std.specs.List.{list_any}
use Rattle.std.specs.Option.{IfSome, option_copied, option_map}
use Rattle.std.specs.Ordering.{is_eq, nat_cmp}
use Rattle.std.proofs.lemmas.Bool.Decides.{Decides-eqb}
use Rattle.std.proofs.lemmas.List.Elements.{All-weaker}
use Rattle.ox_ledger.specs.Marks.{IsFull, WithMark, listed}
use Rattle.ox_ledger.proofs.ListLemmas.{get-listed, length-listed, not_tied}

-- what is said of the value of an Ok
pub if_ok : {T E : Type 0} {P Q : T → Type 0} (r : Result T E) → ((x : T) → P x → Q x) → IfOk r P → IfOk r Q
if_ok (Ok x) step is = step x is
if_ok (Err e) step is = is

not_any : (places : List ℕ) (q : ℕ) → list_any (λ p. p == q) places ≡ false → list_any (λ key. is_eq (nat_cmp q key)) places ≡ false
not_any [] q none = refl
not_any (place ∷ places) q none = by_test (not_any places q) (place == q) refl none where
  by_test : (list_any (λ p. p == q) places ≡ false → list_any (λ key. is_eq (nat_cmp q key)) places ≡ false) → (b : Bool) → (place == q) ≡ b → (b || list_any (λ p. p == q) places) ≡ false
      → (is_eq (nat_cmp q place) || list_any (λ key. is_eq (nat_cmp q key)) places) ≡ false
  by_test rest true is none = absurd (true≢false none)
  by_test rest false is none =
      let other : q ≢ place = λ same. true≢false (sym ((Decides-eqb place q).1 (sym same)) ∙ is) in
      ap (λ (b : Bool). b || list_any (λ key. is_eq (nat_cmp q key)) places) (not_tied q place other) ∙ rest none

module _ {A : Type 0} where
  below : (at : ℕ → Option A) (n place : ℕ) → IsFull at n → place < length (listed at n) → place < n
  below at n place full less = let long = length-listed at n full in omega (arith, long, less)

  there : (at f : ℕ → Option A) (n : ℕ) (n_then : Option ℕ) (changed : ℕ → Bool) (places : List ℕ) → IsFull at n → IfSome n_then (IsFull f)
      → ((q : ℕ) → changed q ≡ false → at q ≡ f q) → ((q : ℕ) → list_any (λ key. is_eq (nat_cmp q key)) places ≡ changed q)
      → IfSome (option_map (listed f) n_then) (λ list. (place : ℕ) → place < length (listed at n) → place < length list → list_any (λ p. p == place) places ≡ false → slice_get (listed at n) place ≡ slice_get list place)
  there at f n None changed places full full_then same put = tt
  there at f n (Some n_then) changed places full full_then same put = λ place less less_then none.
      get-listed at n place full (below at n place full less) ∙ same place (sym (put place) ∙ not_any places place none) ∙ sym (get-listed f n_then place full_then (below f n_then place full_then less_then))

  pub stays_beside : (at f : ℕ → Option A) (n : ℕ) (n_then : Option ℕ) (changed : ℕ → Bool) (places : List ℕ) (shown : WithMark (List A))
      → record { now = listed at n; mark = option_map (listed f) n_then } ≡ shown → IsFull at n → IfSome n_then (IsFull f) → ((q : ℕ) → changed q ≡ false → at q ≡ f q)
      → ((q : ℕ) → list_any (λ key. is_eq (nat_cmp q key)) places ≡ changed q)
      → IfSome shown.mark (λ list. (place : ℕ) → place < length shown.now → place < length list → list_any (λ p. p == place) places ≡ false → slice_get shown.now place ≡ slice_get list place)
  stays_beside at f n n_then changed places shown is full full_then same put =
      subst (λ (s : WithMark (List A)). IfSome s.mark (λ list. (place : ℕ) → place < length s.now → place < length list → list_any (λ p. p == place) places ≡ false → slice_get s.now place ≡ slice_get list place)) is
      (there at f n n_then changed places full full_then same put)

  -- what stood at the mark, seen in the list
  pub values_then : (f : ℕ → Option A) (n_then : Option ℕ) (changes : List (ℕ × Option (Bor A))) → IfSome n_then (IsFull f) → All (λ change. option_copied change.1 ≡ f change.0) changes
      → IfSome (option_map (listed f) n_then) (λ list. All (λ change. change.0 < length list → slice_get list change.0 ≡ option_copied change.1) changes)
  values_then f None changes full before = tt
  values_then f (Some n_then) changes full before =
      All-weaker (λ (change : ℕ × Option (Bor A)). option_copied change.1 ≡ f change.0) (λ (change : ℕ × Option (Bor A)). change.0 < length (listed f n_then) → slice_get (listed f n_then) change.0 ≡ option_copied change.1)
      (λ change is less. get-listed f n_then change.0 full (below f n_then change.0 full less) ∙ sym is) changes before
