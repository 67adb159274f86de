-- What runs are looked up by.
use Rattle.std.specs.Prelude.{◌≡◌, ℕ, ◌+◌, Bool, ◌&&◌, List, [], ◌∷◌, nat_le, nat_lt, max}
use Rattle.std.specs.Prelude.{length, Option}
use Rattle.std.specs.Option.{ForSome}
use Rattle.std.specs.List.Sorted.{IsNonDecreasingBy, IsPermutation}
use Rattle.ox_range.specs.Runs.{end_of, runs_of}
use Rattle.ox_range.specs.declared.runs.Run.{Run}
use Rattle.ox_range_index.specs.declared.index.Tables.{Tables}
use Rattle.ox_range_index.specs.declared.reaches.Reach.{Reach}

-- how many numbers stand before each run, the first of them behind so many
unfoldable pub counts_from : ℕ → List Run → List ℕ
counts_from before [] = []
counts_from before (run ∷ runs) = before ∷ counts_from (before + run.count) runs

-- each run's first number, and the greatest end of the runs up to it
unfoldable pub reaches_from : ℕ → List Run → List Reach
reaches_from end [] = []
reaches_from end (run ∷ runs) =
    record { first = run.first; end = max end (end_of run) }
    ∷ reaches_from (max end (end_of run)) runs

-- a number is one of a run's
abbrev pub covers : ℕ → Run → Bool
covers number run = nat_le run.first number && nat_lt number (end_of run)

-- the same runs by rising first number, and how far they reach
pub record Reaches (runs : List Run) (reaches : List Reach) : Type 0 where
  pub sorted : List Run
  pub moved : IsPermutation runs sorted
  pub rising : IsNonDecreasingBy (λ run. run.first) sorted
  pub is : reaches ≡ reaches_from 0 sorted

-- what several runs are looked up by
pub record AreTablesOf (runs : List Run) (tables : Tables) : Type 0 where
  pub counted : tables.counts.items ≡ counts_from 0 runs
  pub reached : Reaches runs tables.reaches.items

-- what a list of these numbers is looked up by
pub record IsIndexOf (numbers : List ℕ) (len : ℕ) (tables : Option Tables) : Type 0 where
  pub whole : len ≡ length numbers
  pub searched : ForSome tables (AreTablesOf (runs_of numbers))
