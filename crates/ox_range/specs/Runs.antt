use Rattle.std.specs.Prelude.{◌≡◌, ◌≢◌, ℕ, ◌+◌, ◌-◌, ◌^◌, ◌<◌, List, [], ◌∷◌, ◌++◌, length}
use Rattle.std.specs.Prelude.{slice_index_or, take, drop, ◌==◌, if◌then◌else◌}
use Rattle.ox_range.specs.declared.runs.Run.{Run}
use Rattle.ox_range.specs.Numbers.{numbers_from}

-- the numbers of the runs, one run after another
unfoldable pub numbers_of : List Run → List ℕ
numbers_of [] = []
numbers_of (run ∷ runs) = numbers_from run.first run.count ++ numbers_of runs

-- the runs that follow don't go on where this one ends
unfoldable pub EndsBefore : Run → List Run → Type 0
EndsBefore run [] = Unit {0}
EndsBefore run (next ∷ runs) = run.first + run.count ≢ next.first

-- no run is empty, none can be joined with the next, and each number is below 2 ^ 64 - 1
unfoldable pub AreMaximal : List Run → Type 0
AreMaximal [] = Unit {0}
AreMaximal (run ∷ runs) =
    (0 < run.count) × (run.first + run.count < 2 ^ 64) × EndsBefore run runs × AreMaximal runs

-- a number in front of runs: it joins the first of them where that goes on behind it
abbrev pub runs_with : ℕ → List Run → List Run
runs_with number [] = record { first = number; count = 1 } ∷ []
runs_with number (run ∷ runs) =
    if number + 1 == run.first then record { first = number; count = run.count + 1 } ∷ runs
    else record { first = number; count = 1 } ∷ run ∷ runs

-- the maximal runs of a list of numbers, in order
unfoldable pub runs_of : List ℕ → List Run
runs_of [] = []
runs_of (number ∷ numbers) = runs_with number (runs_of numbers)

-- runs that a list of numbers is kept as, beside the list's length
pub record AreRunsOf (runs : List Run) (count : ℕ) : Type 0 where
  pub maximal : AreMaximal runs
  pub len : length (numbers_of runs) ≡ count
  pub fits : count < 2 ^ 64

-- the run at an index, and one of no numbers where there is none
abbrev pub run_at : List Run → ℕ → Run
run_at runs index = slice_index_or runs index (record { first = 0; count = 0 })

-- the number behind the last of a run
abbrev pub end_of : Run → ℕ
end_of run = run.first + run.count

-- the first numbers of a run, so many
abbrev pub front_of : ℕ → Run → Run
front_of keep run = record { first = run.first; count = keep }

-- the other numbers of the run
abbrev pub rest_of : ℕ → Run → Run
rest_of keep run = record { first = run.first + keep; count = run.count - keep }

-- two runs as one, where the second goes on with the first
abbrev pub joined_run : Run → Run → Run
joined_run run next = record { first = run.first; count = run.count + next.count }

-- the first run of a list goes on where the last run of another ends
pub record GoesOn (runs tail : List Run) : Type 0 where
  pub some : 0 < length runs
  pub more : 0 < length tail
  pub meets : end_of (run_at runs (length runs - 1)) ≡ (run_at tail 0).first

-- the runs of both lists, the last of the first and the first of the second being one
abbrev pub Joins : List Run → List Run → List Run → Type 0
Joins runs tail new =
    let last = length runs - 1 in
    new ≡ take last runs ++ joined_run (run_at runs last) (run_at tail 0) ∷ drop 1 tail
