-- The slots that hold runs of satoshis, by the runs' first numbers.
use Rattle.std.specs.Prelude.{◌≡◌, ℕ, ◌≤◌, Bool, List, [], ◌∷◌, ◌++◌, map, Option, Some, IsSome}
use Rattle.std.specs.Prelude.{if◌then◌else◌}
use Rattle.std.specs.List.{All, list_any}
use Rattle.std.specs.Option.{option_and_then}
use Rattle.std.specs.Ordering.{nat_cmp}
use Rattle.std.specs.BTreeMap.{is_at}
use Rattle.ox_range.specs.declared.runs.Run.{Run}
use Rattle.ox_outputs.specs.Cells.{CellList, start_in}
use Rattle.ox_outputs.specs.Packed.{IsPlace}
use Rattle.ox_outputs.specs.declared.starts.Before.{Before}

-- the slot of the run that begins with this number
abbrev pub slot_from : CellList → ℕ → Option ℕ
slot_from starts first = option_and_then (λ slot. slot) (start_in starts first)

-- whether a number is among these
abbrev pub is_among : List ℕ → ℕ → Bool
is_among firsts number = list_any (is_at (nat_cmp number)) firsts

-- the first numbers of runs
abbrev pub firsts_of : List Run → List ℕ
firsts_of runs = map (λ run. run.first) runs

-- the slots as they were before some changes, of which the oldest comes first
abbrev pub before_in : List Before → (ℕ → Option ℕ) → ℕ → Option ℕ
before_in [] slots first = slots first
before_in (change ∷ changes) slots first =
    if is_at (nat_cmp first) change.first then change.slot else before_in changes slots first

-- changes were noted behind the earlier ones, and they lead from the later slots to the earlier
pub record AreNoted (earlier later : List Before) (was is : ℕ → Option ℕ) : Type 0 where
  pub added : List Before
  pub behind : later ≡ earlier ++ added
  pub back : (first : ℕ) → before_in added is first ≡ was first

-- each number that changed stands among the starts, and what stood there can stand there again
abbrev pub AreLogged : List Before → CellList → Type 0
AreLogged changes starts =
    All (λ change. IsSome (start_in starts change.first) × IsPlace change.slot) changes

-- this number is at another one or before, and no start stands between them
abbrev pub BeginsLast : (ℕ → Option ℕ) → ℕ → ℕ → Type 0
BeginsLast starts first number =
    (first ≤ number) × ((f slot : ℕ) → starts f ≡ Some slot → f ≤ number → f ≤ first)
