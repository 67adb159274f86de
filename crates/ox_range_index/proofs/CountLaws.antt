-- How many numbers stand before each run.
use Rattle.std.proofs.Common.{◌≡◌, ◌∙◌, ◌⊎◌, inl, inr, ℕ, zero, suc, ◌+◌, ◌-◌, ◌^◌, ◌<◌, ◌≤◌, List, [], ◌∷◌, ◌++◌, length, take, drop, get_or, refl, sym, ap, arith, append_assoc, append-nil, length-append}
use Rattle.std.proofs.lemmas.Bool.{cases_lt}
use Rattle.std.proofs.lemmas.List.{drop_more, drop_all, get_or-drop, take_all}
use Rattle.ox_range.specs.declared.runs.Run.{Run}
use Rattle.ox_range.specs.Numbers.{numbers_from}
use Rattle.ox_range.specs.Runs.{numbers_of, AreMaximal}
use Rattle.ox_range.proofs.RunLemmas.{zero_run, numbers-cons, numbers-none, length-numbers_from, maximal-drop, number_here, step}
use Rattle.ox_range.proofs.CutLemmas.{cut_between, length-take_more}
use Rattle.ox_range_index.specs.Index.{counts_from}

pub counts-none : (before : ℕ) → counts_from before [] ≡ []
unfolding counts_from
counts-none before = refl

counts-cons : (before : ℕ) (run : Run) (runs : List Run) → counts_from before (run ∷ runs) ≡ before ∷ counts_from (before + run.count) runs
unfolding counts_from
counts-cons before run runs = refl

-- one run more is counted
pub counts_more : (counts after all : List ℕ) (before i : ℕ) (runs : List Run) (d : Run) → i < length runs → after ≡ counts ++ before ∷ [] → counts ++ counts_from before (drop i runs) ≡ all → after ++ counts_from (before + (get_or runs i d).count) (drop (i + 1) runs) ≡ all
counts_more counts after all before i runs d within is so_far =
    ap (λ (front : List ℕ). front ++ counts_from (before + (get_or runs i d).count) (drop (i + 1) runs)) is
    ∙ append_assoc counts (before ∷ []) _
    ∙ ap (λ (rest : List ℕ). counts ++ rest) (sym (ap (counts_from before) (drop_more runs i d within) ∙ counts-cons before (get_or runs i d) (drop (i + 1) runs)))
    ∙ so_far

pub counts_all : (counts all : List ℕ) (before i : ℕ) (runs : List Run) → length runs ≤ i → counts ++ counts_from before (drop i runs) ≡ all → counts ≡ all
counts_all counts all before i runs past so_far =
    sym (ap (λ (rest : List ℕ). counts ++ rest) (ap (counts_from before) (drop_all i runs past) ∙ counts-none before) ∙ append-nil counts) ∙ so_far

-- what is left to count
pub left_more : (i : ℕ) (runs : List Run) (d : Run) → i < length runs → length (numbers_of (drop i runs)) ≡ (get_or runs i d).count + length (numbers_of (drop (i + 1) runs))
left_more i runs d within =
    ap (λ (rs : List Run). length (numbers_of rs)) (drop_more runs i d within)
    ∙ ap length (numbers-cons (get_or runs i d) (drop (i + 1) runs))
    ∙ length-append (numbers_from (get_or runs i d).first (get_or runs i d).count) _
    ∙ ap (λ (n : ℕ). n + length (numbers_of (drop (i + 1) runs))) (length-numbers_from (get_or runs i d).first (get_or runs i d).count)

pub length-counts : (before : ℕ) (runs : List Run) → length (counts_from before runs) ≡ length runs
unfolding counts_from
length-counts before [] = refl
length-counts before (run ∷ runs) = ap suc (length-counts (before + run.count) runs)

counts_at : (before i : ℕ) (runs : List Run) → i < length runs → get_or (counts_from before runs) i 0 ≡ before + length (numbers_of (take i runs))
unfolding counts_from
counts_at before i [] within = absurd (omega (arith, within))
counts_at before zero (run ∷ runs) within = omega (arith, ap length numbers-none)
counts_at before (suc i) (run ∷ runs) within =
    let here : length (numbers_of (run ∷ take i runs)) ≡ run.count + length (numbers_of (take i runs)) =
    ap length (numbers-cons run (take i runs))
    ∙ length-append (numbers_from run.first run.count) (numbers_of (take i runs))
    ∙ ap (λ (n : ℕ). n + length (numbers_of (take i runs))) (length-numbers_from run.first run.count) in
    omega (arith, here, counts_at (before + run.count) i runs (omega arith))

-- the run that a place is in
record IsIn (runs : List Run) (place i : ℕ) : Type 0 where
  run : i < length runs
  count : length (numbers_of (take i runs)) ≤ place
  within : place - length (numbers_of (take i runs)) < (get_or runs i zero_run).count

is_in : (place i : ℕ) (runs : List Run) → i < length runs → get_or (counts_from 0 runs) i 0 ≤ place
    → (i + 1 < length runs → place < get_or (counts_from 0 runs) (i + 1) 0) → place < length (numbers_of runs) → IsIn runs place i
is_in place i runs run low high long = by_last (cases_lt (i + 1) (length runs)) where
  by_last : (i + 1 < length runs) ⊎ (length runs ≤ i + 1) → IsIn runs place i
  by_last (inl more) = record {
    run = run;
    count = omega (arith, low, counts_at 0 i runs run);
    within = omega (arith, low, high more, counts_at 0 i runs run, counts_at 0 (i + 1) runs more, length-take_more runs i zero_run run);
  }
  by_last (inr last) = record {
    run = run;
    count = omega (arith, low, counts_at 0 i runs run);
    within =
        let all : length (numbers_of (take (i + 1) runs)) ≡ length (numbers_of runs) = ap (λ (rs : List Run). length (numbers_of rs)) (take_all (i + 1) runs last) in
        omega (arith, low, long, all, counts_at 0 i runs run, length-take_more runs i zero_run run);
  }

-- the number at a place, by its run
number_in : (place i : ℕ) (runs : List Run) → AreMaximal runs → i < length runs → get_or (counts_from 0 runs) i 0 ≤ place
    → (i + 1 < length runs → place < get_or (counts_from 0 runs) (i + 1) 0) → place < length (numbers_of runs)
    → ((get_or runs i zero_run).first + (place - get_or (counts_from 0 runs) i 0) ≡ get_or (numbers_of runs) place 0) × ((get_or runs i zero_run).first + (place - get_or (counts_from 0 runs) i 0) < 2 ^ 64)
number_in place i runs maximal run low high long =
    let there = is_in place i runs run low high long in
    let count = length (numbers_of (take i runs)) in
    let counted : get_or (counts_from 0 runs) i 0 ≡ count = counts_at 0 i runs run ∙ (omega arith) in
    let here = step runs i zero_run run (maximal-drop i runs maximal) in
    let at : get_or (numbers_of runs) (count + (place - count)) 0 ≡ (get_or runs i zero_run).first + (place - count) =
    sym (get_or-drop count (numbers_of runs) (place - count) 0) ∙ sym (ap (λ (ns : List ℕ). get_or ns (place - count) 0) ((cut_between runs i count refl).1)) ∙ number_here runs i (get_or runs i zero_run) (place - count) here there.within in
    let same : count + (place - count) ≡ place = omega (arith, there.count) in (
      sym (ap (λ (k : ℕ). get_or (numbers_of runs) k 0) (sym same) ∙ at ∙ ap (λ (k : ℕ). (get_or runs i zero_run).first + (place - k)) (sym counted)),
      omega (arith, counted, here.fits, there.within),
    )

-- the same where the counts are those of the runs
pub found : (counts : List ℕ) (runs : List Run) (place i : ℕ) → AreMaximal runs → counts ≡ counts_from 0 runs → i < length counts → get_or counts i 0 ≤ place
    → (i + 1 < length counts → place < get_or counts (i + 1) 0) → place < length (numbers_of runs)
    → (i < length runs) × ((get_or runs i zero_run).first + (place - get_or counts i 0) ≡ get_or (numbers_of runs) place 0) × ((get_or runs i zero_run).first + (place - get_or counts i 0) < 2 ^ 64)
found counts runs place i maximal counted within low high long =
    let same_len : length counts ≡ length runs = ap length counted ∙ length-counts 0 runs in
    let at : (k : ℕ) → get_or counts k 0 ≡ get_or (counts_from 0 runs) k 0 = λ k. ap (λ (cs : List ℕ). get_or cs k 0) counted in
    let there : i < length runs = omega (arith, within, same_len) in
    let number = number_in place i runs maximal there (omega (arith, low, at i)) (λ more. omega (arith, at (i + 1), high (omega (arith, more, same_len)))) long in (
      there,
      ap (λ (k : ℕ). (get_or runs i zero_run).first + (place - k)) (at i) ∙ number.0,
      omega (arith, number.1, at i),
    )

pub some_count : (counts : List ℕ) (runs : List Run) (place : ℕ) → counts ≡ counts_from 0 runs → place < length (numbers_of runs) → (0 < length counts) × (get_or counts 0 0 ≤ place)
some_count counts [] place counted long = absurd (omega (arith, long, ap length numbers-none))
some_count counts (run ∷ runs) place counted long =
    let all : counts ≡ 0 ∷ counts_from (0 + run.count) runs = counted ∙ counts-cons 0 run runs in
    (omega (arith, ap length all), omega (arith, ap (λ (cs : List ℕ). get_or cs 0 0) all))

pub runs_fit : (numbers : List ℕ) (runs : List Run) (len : ℕ) → numbers_of runs ≡ numbers → len ≡ length numbers → len < 2 ^ 64 → length (numbers_of runs) < 2 ^ 64
runs_fit numbers runs len all is fits = omega (arith, ap length all, is, fits)
