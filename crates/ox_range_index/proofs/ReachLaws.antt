-- How far runs reach that begin at or below a number.
use Rattle.std.proofs.Common.{◌≡◌, ◌∙◌, ℕ, zero, suc, ◌+◌, ◌^◌, ◌<◌, ◌≤◌, Bool, true, false, List, [], ◌∷◌, ◌++◌, length, drop, get_or, refl, sym, ap, subst, arith, append_assoc, append-nil, nat_lt, nat_le, max, is_some, cond, Some, None}
use Rattle.std.specs.Prelude.{◌==◌, ◌||◌, ◌&&◌, All, position}
use Rattle.std.specs.List.{list_any, position_or_len, AllWithin}
use Rattle.std.specs.List.Sorted.{IsNonDecreasingBy, IsPermutation, IsPartitionPoint, IsPartitionedBy}
use Rattle.std.proofs.lemmas.List.{drop_more, drop_all}
use Rattle.std.proofs.Math.Bool.{or_assoc}
use Rattle.std.proofs.lemmas.Bool.Decides.{nat_tests}
use Rattle.std.proofs.lemmas.List.Folds.{list_any-append}
use Rattle.std.proofs.lemmas.List.Sorted.{list_any-IsPermutation, All-permutation, IsPartitionedBy-leb}
use Rattle.ox_range.specs.declared.runs.Run.{Run}
use Rattle.ox_range.specs.Numbers.{numbers_from}
use Rattle.ox_range.specs.Runs.{numbers_of, end_of, AreMaximal}
use Rattle.ox_range.proofs.RunLemmas.{numbers-cons, numbers-none, maximal-at, zero_run}
use Rattle.ox_range_index.specs.Index.{Reaches, covers, reaches_from}
use Rattle.ox_range_index.specs.declared.reaches.Reach.{Reach}

-- ---- tests

no_run : (number first : ℕ) → false ≡ (nat_le first number && nat_lt number (first + 0))
no_run number first = grind (arith, nat_tests)

one_more : (number first count : ℕ) → ((first == number) || (nat_le (first + 1) number && nat_lt number (first + 1 + count))) ≡ (nat_le first number && nat_lt number (first + suc count))
one_more number first count = grind (arith, nat_tests)

less_than_max : (number a b : ℕ) → nat_lt number (max a b) ≡ (nat_lt number a || nat_lt number b)
less_than_max number a b = grind (arith, nat_tests)

no_less : (number : ℕ) → nat_lt number 0 ≡ false
no_less number = grind (arith, nat_tests)

or_none : (b : Bool) → (b || false) ≡ b
or_none true = refl
or_none false = refl

-- ---- along the runs

reaches-none : (end : ℕ) → reaches_from end [] ≡ []
unfolding reaches_from
reaches-none end = refl

reaches-cons : (end : ℕ) (run : Run) (runs : List Run) → reaches_from end (run ∷ runs) ≡ (record { first = run.first; end = max end (end_of run) }) ∷ reaches_from (max end (end_of run)) runs
unfolding reaches_from
reaches-cons end run runs = refl

pub reaches_more : (reaches after all : List Reach) (end new i : ℕ) (runs : List Run) (d : Run) → i < length runs → new ≡ max end (end_of (get_or runs i d)) → after ≡ reaches ++ (record { first = (get_or runs i d).first; end = new }) ∷ [] → reaches ++ reaches_from end (drop i runs) ≡ all → after ++ reaches_from new (drop (i + 1) runs) ≡ all
reaches_more reaches after all end new i runs d within greatest is so_far =
    ap (λ (front : List Reach). front ++ reaches_from new (drop (i + 1) runs)) is
    ∙ append_assoc reaches _ _
    ∙ ap (λ (e : ℕ). reaches ++ (record { first = (get_or runs i d).first; end = e } ∷ reaches_from e (drop (i + 1) runs))) greatest
    ∙ ap (λ (rest : List Reach). reaches ++ rest) (sym (ap (reaches_from end) (drop_more runs i d within) ∙ reaches-cons end (get_or runs i d) (drop (i + 1) runs)))
    ∙ so_far

pub reaches_all : (reaches all : List Reach) (end i : ℕ) (runs : List Run) → length runs ≤ i → reaches ++ reaches_from end (drop i runs) ≡ all → reaches ≡ all
reaches_all reaches all end i runs past so_far =
    sym (ap (λ (rest : List Reach). reaches ++ rest) (ap (reaches_from end) (drop_all i runs past) ∙ reaches-none end) ∙ append-nil reaches) ∙ so_far

-- ---- which runs have a number

in_run : (number first count : ℕ) → list_any (λ s. s == number) (numbers_from first count) ≡ (nat_le first number && nat_lt number (first + count))
unfolding numbers_from
in_run number first zero = no_run number first
in_run number first (suc count) =
    ap (λ (b : Bool). (first == number) || b) (in_run number (first + 1) count) ∙ one_more number first count

in_both : (number : ℕ) (run : Run) (runs : List Run) → list_any (λ s. s == number) (numbers_of runs) ≡ list_any (covers number) runs → list_any (λ s. s == number) (numbers_of (run ∷ runs)) ≡ list_any (covers number) (run ∷ runs)
in_both number run runs rest =
    ap (list_any (λ s. s == number)) (numbers-cons run runs)
    ∙ list_any-append (λ s. s == number) (numbers_from run.first run.count) (numbers_of runs)
    ∙ ap (λ (b : Bool). b || list_any (λ s. s == number) (numbers_of runs)) (in_run number run.first run.count)
    ∙ ap (λ (b : Bool). covers number run || b) rest

pub in_runs : (number : ℕ) (runs : List Run) → list_any (λ s. s == number) (numbers_of runs) ≡ list_any (covers number) runs
in_runs number [] = ap (list_any (λ s. s == number)) numbers-none
in_runs number (run ∷ runs) = in_both number run runs (in_runs number runs)

-- ---- the runs that begin at or below it

-- how far the first of these runs reach, so many
abbrev end_before : ℕ → List Run → ℕ → ℕ
end_before end runs zero = end
end_before end [] (suc i) = end
end_before end (run ∷ runs) (suc i) = end_before (max end (end_of run)) runs i

end_at : (end : ℕ) (runs : List Run) (i : ℕ) (d : Reach) → i < length runs → (get_or (reaches_from end runs) i d).end ≡ end_before end runs (suc i)
unfolding reaches_from
end_at end [] i d within = absurd (omega (arith, within))
end_at end (run ∷ runs) zero d within = refl
end_at end (run ∷ runs) (suc i) d within = end_at (max end (end_of run)) runs i d (omega arith)

reach_first : (end : ℕ) (runs : List Run) (i : ℕ) (d : Reach) (e : Run) → i < length runs → (get_or (reaches_from end runs) i d).first ≡ (get_or runs i e).first
unfolding reaches_from
reach_first end [] i d e within = absurd (omega (arith, within))
reach_first end (run ∷ runs) zero d e within = refl
reach_first end (run ∷ runs) (suc i) d e within = reach_first (max end (end_of run)) runs i d e (omega arith)

length-reaches : (end : ℕ) (runs : List Run) → length (reaches_from end runs) ≡ length runs
unfolding reaches_from
length-reaches end [] = refl
length-reaches end (run ∷ runs) = ap suc (length-reaches (max end (end_of run)) runs)

-- the runs from an index on begin above the number, those before at or below it
abbrev Begin : (ℕ → Bool) → Bool → List Run → ℕ → ℕ → Type 0
Begin low is runs from to = AllWithin (λ (run : Run). low run.first ≡ is) runs from to

above : (number end : ℕ) (run : Run) (runs : List Run) (rest : Bool) → nat_le run.first number ≡ false → rest ≡ nat_lt number end → (covers number run || rest) ≡ nat_lt number end
above number end run runs rest high is = ap (λ (b : Bool). (b && nat_lt number (end_of run)) || rest) high ∙ is

below : (number end : ℕ) (run : Run) (any : Bool) → nat_le run.first number ≡ true → (nat_lt number (max end (end_of run)) || any) ≡ (nat_lt number end || (covers number run || any))
below number end run any low =
    ap (λ (b : Bool). b || any) (less_than_max number end (end_of run))
    ∙ or_assoc (nat_lt number end) (nat_lt number (end_of run)) any
    ∙ sym (ap (λ (b : Bool). nat_lt number end || ((b && nat_lt number (end_of run)) || any)) low)

none_covers : (number : ℕ) (runs : List Run) → Begin (λ first. nat_le first number) false runs 0 (length runs) → list_any (covers number) runs ≡ false
none_covers number [] high = refl
none_covers number (run ∷ runs) high =
    ap (λ (b : Bool). (b && nat_lt number (end_of run)) || list_any (covers number) runs) (high 0 run (omega arith) (omega arith))
    ∙ none_covers number runs (λ k d low within. high (suc k) d (omega arith) (omega arith))

reach_covers : (number end i : ℕ) (runs : List Run) → Begin (λ first. nat_le first number) true runs 0 i → Begin (λ first. nat_le first number) false runs i (length runs) → i ≤ length runs → nat_lt number (end_before end runs i) ≡ (nat_lt number end || list_any (covers number) runs)
reach_covers number end zero runs low high within = sym (ap (λ (b : Bool). nat_lt number end || b) (none_covers number runs high) ∙ or_none (nat_lt number end))
reach_covers number end (suc i) [] low high within = absurd (omega (arith, within))
reach_covers number end (suc i) (run ∷ runs) low high within =
    reach_covers number (max end (end_of run)) i runs (λ k d from to. low (suc k) d (omega arith) (omega arith)) (λ k d from to. high (suc k) d (omega arith) (omega arith)) (omega arith)
    ∙ below number end run (list_any (covers number) runs) (low 0 run (omega arith) (omega arith))

-- ---- in the words of a search

rising : (end : ℕ) (runs : List Run) → IsNonDecreasingBy (λ (run : Run). run.first) runs → IsNonDecreasingBy (λ (reach : Reach). reach.first) (reaches_from end runs)
rising end runs up = λ i j d le within.
    let there : j < length runs = omega (arith, within, length-reaches end runs) in
    let one = reach_first end runs i d zero_run (omega arith) in
    let other = reach_first end runs j d zero_run there in
    omega (arith, one, other, up i j zero_run le there)

abbrev pub begins : ℕ → Reach → Bool
begins number reach = nat_le reach.first number

pub partitioned : (number : ℕ) (runs : List Run) (reaches : List Reach) → Reaches runs reaches → IsPartitionedBy (begins number) reaches
partitioned number runs reaches is =
    subst (λ (rs : List Reach). IsPartitionedBy (begins number) rs) (sym is.is) (IsPartitionedBy-leb (λ (reach : Reach). reach.first) (reaches_from 0 is.sorted) number (rising 0 is.sorted is.rising))

-- so many reaches begin at or below a number: the runs have it where these reach over it
abbrev pub Cuts : ℕ → List Reach → ℕ → Type 0
Cuts number reaches i = IsPartitionPoint (λ (reach : Reach). begins number reach ≡ true) (λ (reach : Reach). begins number reach ≡ false) reaches i

over : (number i : ℕ) (runs sorted : List Run) (reaches : List Reach) → IsPermutation runs sorted → reaches ≡ reaches_from 0 sorted → Cuts number reaches i → i ≤ length reaches → nat_lt number (end_before 0 sorted i) ≡ list_any (covers number) runs
over number i runs sorted reaches moved is cut within =
    let long : length reaches ≡ length sorted = ap length is ∙ length-reaches 0 sorted in
    let to_run = λ (b : Bool) (k : ℕ) (d : Run) (there : k < length sorted) (at : begins number (get_or reaches k (record { first = 0; end = 0 })) ≡ b).
    sym (ap (λ (f : ℕ). nat_le f number) (ap (λ (rs : List Reach). (get_or rs k (record { first = 0; end = 0 })).first) is ∙ reach_first 0 sorted k (record { first = 0; end = 0 }) d there)) ∙ at in
    reach_covers number 0 i sorted
    (λ k d from to. to_run true k d (omega (arith, long, within)) (cut.0 k (record { first = 0; end = 0 }) from to))
    (λ k d from to. to_run false k d to (cut.1 k (record { first = 0; end = 0 }) from (omega (arith, long, to)))) (omega (arith, long, within))
    ∙ ap (λ (b : Bool). b || list_any (covers number) sorted) (no_less number)
    ∙ sym (list_any-IsPermutation (covers number) runs sorted moved)

pub over_some : (number last i : ℕ) (runs : List Run) (reaches : List Reach) (d : Reach) → Reaches runs reaches → Cuts number reaches i → i ≤ length reaches → i ≡ last + 1 → nat_lt number (get_or reaches last d).end ≡ list_any (covers number) runs
over_some number last i runs reaches d is cut within one =
    let there : last < length is.sorted = omega (arith, within, one, ap length is.is, length-reaches 0 is.sorted) in
    ap (nat_lt number) (ap (λ (rs : List Reach). (get_or rs last d).end) is.is ∙ end_at 0 is.sorted last d there ∙ (let same : suc last ≡ i = omega (arith, one) in ap (end_before 0 is.sorted) same))
    ∙ over number i runs is.sorted reaches is.moved is.is cut within

pub over_none : (number : ℕ) (runs : List Run) (reaches : List Reach) → Reaches runs reaches → Cuts number reaches 0 → false ≡ list_any (covers number) runs
over_none number runs reaches is cut = sym (no_less number) ∙ over number 0 runs is.sorted reaches is.moved is.is cut (omega arith)

-- ---- the ends of runs

pub ends_fit : (runs sorted : List Run) → AreMaximal runs → IsPermutation runs sorted → All (λ (run : Run). end_of run < 2 ^ 64) sorted
ends_fit runs sorted maximal moved = All-permutation (λ (run : Run). end_of run < 2 ^ 64) runs sorted moved (λ k d within. (maximal-at runs k d maximal within).1)

-- ---- one run

has_place : (there : Bool) (place : ℕ) → is_some (cond there (Some place) None) ≡ there
has_place true place = refl
has_place false place = refl

one_behind : (place count : ℕ) → nat_lt (1 + place) (suc count) ≡ nat_lt place count
one_behind place count = grind (arith, nat_tests)

first_place : (test : ℕ → Bool) (number : ℕ) (numbers : List ℕ) → is_some (position test numbers) ≡ list_any test numbers → is_some (position test (number ∷ numbers)) ≡ list_any test (number ∷ numbers)
first_place test number numbers rest = by_first (test number) refl where
  by_first : (first : Bool) → test number ≡ first → is_some (position test (number ∷ numbers)) ≡ list_any test (number ∷ numbers)
  by_first true is = rw is (has_place (nat_lt 0 (suc (length numbers))) 0 ∙ grind (arith, nat_tests))
  by_first false is =
      let place = position_or_len test numbers in
      rw is
      (has_place (nat_lt (1 + place) (suc (length numbers))) (1 + place)
      ∙ one_behind place (length numbers)
      ∙ sym (has_place (nat_lt place (length numbers)) place)
      ∙ rest)

-- a number that has a place is there
pub some_place : (test : ℕ → Bool) (numbers : List ℕ) → is_some (position test numbers) ≡ list_any test numbers
some_place test [] = refl
some_place test (number ∷ numbers) = first_place test number numbers (some_place test numbers)
