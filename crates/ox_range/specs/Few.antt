-- What one run or several are kept as.
use Rattle.std.specs.Prelude.{ℕ, ◌<◌, List, [], ◌∷◌, length}
use Rattle.ox_range.specs.declared.runs.Run.{Run}
use Rattle.ox_range.specs.declared.few.Runs.{Runs}
use Rattle.ox_range.specs.declared.few.Runs.TheVariants.{Empty, One, Many}
use Rattle.ox_range.specs.Runs.{AreRunsOf}

-- the runs, in order
abbrev pub runs_in : Runs → List Run
runs_in Empty = []
runs_in (One run) = run ∷ []
runs_in (Many long) = long.value.runs.items

-- how many numbers they have, as it is kept beside them
abbrev pub count_in : Runs → ℕ
count_in Empty = 0
count_in (One run) = run.count
count_in (Many long) = long.value.len

-- only several runs take memory of their own
abbrev pub IsCompact : Runs → Type 0
IsCompact Empty = Unit {0}
IsCompact (One run) = Unit {0}
IsCompact (Many long) = 1 < length long.value.runs.items

-- what a list of numbers is kept as
pub record IsKept (runs : Runs) : Type 0 where
  pub are_runs : AreRunsOf (runs_in runs) (count_in runs)
  pub compact : IsCompact runs
