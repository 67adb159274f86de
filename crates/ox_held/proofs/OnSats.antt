-- The sequences of the inscriptions on some satoshis, as they are gathered and in order.
use Rattle.std.proofs.Common.{◌≡◌, ◌∙◌, ℕ, zero, suc, ◌+◌, ◌-◌, ◌<◌, ◌≤◌, ◌==◌, nat_eq, Bool, true, false, List, [], ◌∷◌, ◌++◌, length, take, get_or, append_assoc, refl, sym, ap, ap₂, subst, arith, Option, Some, None}
use Rattle.std.specs.Prelude.{◌||◌, Contains, slice_get}
use Rattle.std.specs.Cmp.{nat_eq_equiv}
use Rattle.std.specs.List.{dedup, flat_map}
use Rattle.std.specs.List.Sorted.{IsPermutation, IsSorted, IsStrictlySortedBy}
use Rattle.std.specs.Option.{option_map_or}
use Rattle.std.specs.Ordering.{nat_cmp}
use Rattle.std.proofs.lemmas.Bool.{eq-eqb, eqb-true, or_left, or_right}
use Rattle.std.proofs.lemmas.Grind.{flat_map-append}
use Rattle.std.proofs.lemmas.List.{append-nil, take_all, take_more}
use Rattle.std.proofs.lemmas.List.Folds.{list_any-append}
use Rattle.std.proofs.lemmas.List.Kept.{Contains-dedup_nat, Contains-from_dedup}
use Rattle.std.proofs.lemmas.List.Sorted.{Contains-permutation, IsPermutation-sym}
use Rattle.std.proofs.lemmas.Map.Keys.{IsStrictlyIncreasing-dedup, sorted_from_strictly_increasing}
use Rattle.std.proofs.lemmas.Map.Views.{Contains-from_any}
use Rattle.ox_range.specs.declared.runs.Run.{Run}
use Rattle.ox_range.specs.Numbers.{numbers_from}
use Rattle.ox_range.specs.Runs.{end_of, numbers_of}
use Rattle.ox_range.proofs.RunLemmas.{numbers-append, numbers-none, numbers_of_one}
use Rattle.ox_inscribe.specs.Inscriptions.{is_on, numbers_where, on}
use Rattle.ox_inscribe.specs.Numbers.{is_among}
use Rattle.ox_inscribe.specs.declared.row.InsRow.{InsRow}
use Rattle.ox_inscribe.proofs.NumberLaws.{numbers_pass, numbers_rise}
use Rattle.ox_replies.specs.Walk.{on_between}
use Rattle.ox_held.specs.Held.{is_on_one}
use Rattle.ox_held.proofs.Numbers.{same_numbers}

-- ---- run by run

module _ (rows : List InsRow) where
  on_run : (run : Run) → flat_map (on rows) (numbers_of (run ∷ [])) ≡ on_between rows run.first (end_of run)
  on_run run =
      let many : run.count ≡ end_of run - run.first = omega arith in
      ap (flat_map (on rows)) (numbers_of_one run.first run.count ∙ ap (numbers_from run.first) many)

  pub none_appended : (old : List ℕ) → old ≡ old ++ flat_map (on rows) (numbers_of [])
  none_appended old = sym (append-nil old) ∙ ap (λ (ns : List ℕ). old ++ flat_map (on rows) ns) (sym numbers-none)

  pub one_appended : (runs : List Run) (i : ℕ) (d : Run) (old found new : List ℕ) → i < length runs
      → found ≡ old ++ flat_map (on rows) (numbers_of (take i runs))
      → new ≡ found ++ on_between rows (get_or runs i d).first (end_of (get_or runs i d))
      → new ≡ old ++ flat_map (on rows) (numbers_of (take (i + 1) runs))
  one_appended runs i d old found new within so_far now =
      let run = get_or runs i d in
      let front = numbers_of (take i runs) in
      now ∙ ap₂ (λ (a b : List ℕ). a ++ b) so_far (sym (on_run run))
      ∙ append_assoc old (flat_map (on rows) front) (flat_map (on rows) (numbers_of (run ∷ [])))
      ∙ ap (λ (ns : List ℕ). old ++ ns) (
      sym (flat_map-append (on rows) front (numbers_of (run ∷ [])))
      ∙ ap (flat_map (on rows)) (sym (numbers-append (take i runs) (run ∷ [])) ∙ ap numbers_of (sym (take_more runs i d within)))
      )

  pub all_appended : (runs : List Run) (i : ℕ) (old found : List ℕ) → length runs ≤ i
      → found ≡ old ++ flat_map (on rows) (numbers_of (take i runs)) → found ≡ old ++ flat_map (on rows) (numbers_of runs)
  all_appended runs i old found past so_far =
      so_far ∙ ap (λ (rs : List Run). old ++ flat_map (on rows) (numbers_of rs)) (take_all i runs past)

-- ---- in order

none_on : (row : Option InsRow) → false ≡ option_map_or (is_on_one []) row false
none_on None = refl
none_on (Some row) = by row.sat where
  by : (sat : Option ℕ) → false ≡ option_map_or (λ sat. is_among sat []) sat false
  by None = refl
  by (Some sat) = refl

one_on : (s : ℕ) (sats : List ℕ) (row : Option InsRow)
    → (option_map_or (is_on s) row false || option_map_or (is_on_one sats) row false) ≡ option_map_or (is_on_one (s ∷ sats)) row false
one_on s sats None = refl
one_on s sats (Some row) = by row.sat where
  by : (sat : Option ℕ) → (option_map_or (λ t. t == s) sat false || option_map_or (λ t. is_among t sats) sat false)
      ≡ option_map_or (λ t. is_among t (s ∷ sats)) sat false
  by None = refl
  by (Some t) = ap (λ (b : Bool). b || is_among t sats) (nat_eq_equiv.symm t s)

-- an inscription is among those on some satoshis where it is on one of them
pub among_on : (rows : List InsRow) (sats : List ℕ) (n : ℕ) → is_among n (flat_map (on rows) sats) ≡ option_map_or (is_on_one sats) (slice_get rows n) false
among_on rows [] n = none_on (slice_get rows n)
among_on rows (s ∷ sats) n =
    list_any-append (λ m. m == n) (on rows s) (flat_map (on rows) sats)
    ∙ ap₂ (λ (a b : Bool). a || b) (numbers_pass (is_on s) 0 n n rows (omega arith)) (among_on rows sats n)
    ∙ one_on s sats (slice_get rows n)

pub in_order : (rows : List InsRow) (sats found rising : List ℕ) → found ≡ flat_map (on rows) sats → IsStrictlySortedBy nat_cmp rising
    → ((n : ℕ) → is_among n rising ≡ is_among n found) → rising ≡ numbers_where (is_on_one sats) 0 rows
in_order rows sats found rising are up same =
    same_numbers rising (numbers_where (is_on_one sats) 0 rows) up
    (sorted_from_strictly_increasing _ (numbers_rise (is_on_one sats) 0 rows))
    (λ n. same n ∙ ap (is_among n) are ∙ among_on rows sats n ∙ sym (numbers_pass (is_on_one sats) 0 n n rows (omega arith)))

-- ---- each once

-- what is contained, as a test
pub contained : (numbers : List ℕ) (n : ℕ) → Contains numbers n → is_among n numbers ≡ true
contained numbers n there = by numbers there.0 there.1 there.2 where
  by : (numbers : List ℕ) (k : ℕ) → k < length numbers → get_or numbers k n ≡ n → is_among n numbers ≡ true
  by [] k low is = absurd (omega (arith, low))
  by (x ∷ numbers) zero low is = or_left _ _ (eq-eqb x n is)
  by (x ∷ numbers) (suc k) low is = or_right _ _ (by numbers k (omega (arith, low)) is)

pub contains : (numbers : List ℕ) (n : ℕ) → is_among n numbers ≡ true → Contains numbers n
contains numbers n is = Contains-from_any {eq = λ q x. x == q} (λ q x same. sym (eqb-true x q same)) n numbers is

same_tests : (a b : Bool) → (a ≡ true → b ≡ true) → (b ≡ true → a ≡ true) → a ≡ b
same_tests true b forth back = sym (forth refl)
same_tests false true forth back = back refl
same_tests false false forth back = refl

-- numbers that are sorted, each once
module _ (numbers sorted rising : List ℕ) (is : rising ≡ dedup nat_eq sorted) where
  pub once_rising : IsSorted nat_cmp sorted → IsStrictlySortedBy nat_cmp rising
  once_rising up =
      subst (IsStrictlySortedBy nat_cmp) (sym is) (sorted_from_strictly_increasing _ (IsStrictlyIncreasing-dedup sorted up))

  pub once_same : IsPermutation numbers sorted → (n : ℕ) → is_among n rising ≡ is_among n numbers
  once_same moved n = same_tests (is_among n rising) (is_among n numbers)
      (λ there.
      contained numbers n (Contains-permutation sorted numbers n (IsPermutation-sym numbers sorted moved)
      (Contains-from_dedup nat_eq sorted n (subst (λ (ns : List ℕ). Contains ns n) is (contains rising n there)))))
      (λ there.
      contained rising n (subst (λ (ns : List ℕ). Contains ns n) (sym is)
      (Contains-dedup_nat sorted n (Contains-permutation numbers sorted n moved (contains numbers n there)))))
