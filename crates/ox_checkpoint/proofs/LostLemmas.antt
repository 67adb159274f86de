-- The first of some satoshis, by their runs.
use Rattle.std.proofs.Common.{◌≡◌, ◌∙◌, ℕ, zero, suc, ◌+◌, ◌-◌, ◌<◌, ◌≤◌, Bool, cond, List, [], ◌∷◌, ◌++◌, length, get_or, take, append_assoc, append-nil, refl, sym, ap, arith, Option, Some, None}
use Rattle.std.specs.Prelude.{◌==◌, if◌then◌else◌, option_to_list}
use Rattle.std.specs.Int.{w32, to_le_bytes}
use Rattle.std.specs.List.{flat_map}
use Rattle.std.proofs.lemmas.Bool.{ne_eqb}
use Rattle.std.proofs.lemmas.List.Concat.{flat_map-append}
use Rattle.ox_range.specs.declared.runs.Run.{Run}
use Rattle.ox_range.specs.Runs.{AreMaximal, front_of, numbers_of, run_at, runs_of}
use Rattle.ox_range.proofs.CutLemmas.{cut_between, cut_within, front_maximal, length-take_more}
use Rattle.ox_range.proofs.RunLemmas.{maximal-take, numbers-none, runs_of-numbers_of, zero_run}
use Rattle.ox_rows.specs.Spelling.{list, run}

-- ---- where they are cut

-- so many whole runs and so many numbers of the next are as many numbers
pub record IsCut (runs : List Run) (count whole left : ℕ) : Type 0 where
  pub within : whole ≤ length runs
  pub sum : length (numbers_of (take whole runs)) + left ≡ count
  pub part : 0 < left → (whole < length runs) × (left < (run_at runs whole).count)

-- the runs to the cut
abbrev upto : List Run → ℕ → ℕ → List Run
upto runs whole left = take whole runs ++ option_to_list (if left == 0 then None else Some (front_of left (run_at runs whole)))

-- maximal runs that have some numbers are the runs of these
are_runs : (runs : List Run) (numbers : List ℕ) → AreMaximal runs → numbers_of runs ≡ numbers → runs ≡ runs_of numbers
are_runs runs numbers maximal have = sym (runs_of-numbers_of runs maximal) ∙ ap runs_of have

pub cut_is : (runs : List Run) (numbers : List ℕ) (count whole left : ℕ) → AreMaximal runs → numbers_of runs ≡ numbers → IsCut runs count whole left → upto runs whole left ≡ runs_of (take count numbers)
cut_is runs numbers count whole zero maximal have cut =
    let long : length (numbers_of (take whole runs)) ≡ count = omega (arith, cut.sum) in
    append-nil (take whole runs)
    ∙ are_runs (take whole runs) (take count numbers) (maximal-take whole runs maximal) ((cut_between runs whole count long).0 ∙ ap (take count) have)
cut_is runs numbers count whole (suc left) maximal have cut =
    let keep : ℕ = suc left in
    let part = cut.part (omega arith) in
    let front : Run = front_of keep (get_or runs whole zero_run) in
    ap (λ (b : Bool). take whole runs ++ option_to_list (cond b None (Some front))) (ne_eqb keep 0 (λ e. omega arith))
    ∙ are_runs (take whole runs ++ front ∷ []) (take count numbers) (front_maximal runs whole keep zero_run maximal part.0 (omega arith) part.1)
    ((cut_within runs whole keep count zero_run part.0 part.1 cut.sum).0 ∙ ap (take count) have)

-- ---- runs that are gone through

-- so many runs are whole before the cut, and so many numbers are left
pub record AreWhole (runs : List Run) (count n whole left : ℕ) : Type 0 where
  pub here : whole ≡ n
  pub sum : length (numbers_of (take n runs)) + left ≡ count

pub none_whole : (runs : List Run) (count : ℕ) → AreWhole runs count 0 0 count
none_whole runs count = let none : length (numbers_of []) ≡ 0 = ap length numbers-none in record { here = refl; sum = omega (arith, none) }

pub one_whole : (runs : List Run) (count n whole left : ℕ) → AreWhole runs count n whole left → n < length runs → (run_at runs n).count ≤ left
    → AreWhole runs count (n + 1) (whole + 1) (left - (run_at runs n).count)
one_whole runs count n whole left so_far less fits =
    let more : length (numbers_of (take (n + 1) runs)) ≡ length (numbers_of (take n runs)) + (run_at runs n).count = length-take_more runs n zero_run less in
    let sum : length (numbers_of (take n runs)) + left ≡ count = so_far.sum in
    let here : whole ≡ n = so_far.here in record {
      here = omega (arith, here);
      sum = omega (arith, more, sum, fits);
    }

-- ---- put

pub runs_spelled : (whole : List Run) (part : Option Run) (count : ℕ) → count ≡ length (whole ++ option_to_list part)
    → to_le_bytes w32 count ++ flat_map run whole ++ flat_map run (option_to_list part) ≡ list run (whole ++ option_to_list part)
runs_spelled whole part count long =
    let number = to_le_bytes w32 (length (whole ++ option_to_list part)) in
    let last = flat_map run (option_to_list part) in
    ap (λ (n : ℕ). to_le_bytes w32 n ++ flat_map run whole ++ last) long
    ∙ append_assoc number (flat_map run whole) last
    ∙ ap (λ (r : List ℕ). number ++ r) (sym (flat_map-append run whole (option_to_list part)))
