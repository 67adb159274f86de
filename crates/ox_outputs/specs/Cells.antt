-- Starts of runs in cells, each of which holds those of a stretch of numbers in order.
use Rattle.std.specs.Prelude.{◌≡◌, ◌≢◌, ℕ, zero, suc, ◌+◌, ◌^◌, ◌<◌, ◌≤◌, ◌==◌, List, [], ◌∷◌}
use Rattle.std.specs.Prelude.{length, map, Option, Some, None, IsSome, if◌then◌else◌}
use Rattle.std.specs.Prelude.{slice_index_or, All}
use Rattle.std.specs.BTreeMap.{is_at}
use Rattle.std.specs.Map.{lookup}
use Rattle.std.specs.Option.{option_and_then, option_map, option_or}
use Rattle.std.specs.Ordering.{nat_cmp}

-- numbers with which runs begin or began, or their offsets from where a cell reaches, each with the
-- place of the slot that holds the run, if one does
abbrev pub StartList : Type 0
StartList = List (ℕ × Option ℕ)

-- what stands at a number, if it is among these
abbrev pub start_at : StartList → ℕ → Option (Option ℕ)
start_at [] first = None
start_at ((number, slot) ∷ rest) first =
    if number == first then Some slot else start_at rest first

-- the number at a place
abbrev pub first_at : StartList → ℕ → ℕ
first_at starts place = let start = slice_index_or starts place (0, None) in start.0

-- the numbers rise, so none comes twice
abbrev pub AreRising : StartList → Type 0
AreRising starts =
    (i j : ℕ) → i < j → j < length starts → first_at starts i < first_at starts j

-- each is an offset that a cell can hold
abbrev pub AreOffsets : StartList → Type 0
AreOffsets starts = All (λ start. start.0 < 2 ^ 32) starts

-- starts by their numbers, of starts by their offsets from this one
abbrev pub starts_from : ℕ → StartList → StartList
starts_from base starts = map (λ start. (base + start.0, start.1)) starts

-- a number is at this place
pub record IsAt (starts : StartList) (first place : ℕ) : Type 0 where
  pub within : place < length starts
  pub is : first_at starts place ≡ first

-- a number would go to this place: lower ones before it, and higher ones from it on
pub record IsGapFor (starts : StartList) (first place : ℕ) : Type 0 where
  pub within : place ≤ length starts
  pub below : (i : ℕ) → i < place → first_at starts i < first
  pub above : (i : ℕ) → place ≤ i → i < length starts → first < first_at starts i

-- this stands at a number now, and at every other one what stood there
pub record SetsAt {X : Type 0} (old new : ℕ → Option X) (number : ℕ) (now : Option X)
    : Type 0 where
  pub here : new number ≡ now
  pub others : (other : ℕ) → other ≢ number → new other ≡ old other

-- a start is the last at a number or before, by what stands at each number
pub record IsLastTo (starts : ℕ → Option (Option ℕ)) (number : ℕ) (start : ℕ × Option ℕ)
    : Type 0 where
  pub low : start.0 ≤ number
  pub is : starts start.0 ≡ Some start.1
  pub last : (q : ℕ) → IsSome (starts q) → q ≤ number → q ≤ start.0

-- two parts have the starts below a number, of which there is one, and those from it on, of which
-- it is the first
pub record IsCut (starts low : StartList) (from : ℕ) (high : StartList) : Type 0 where
  pub below : (q : ℕ) → q < from → (start_at low q ≡ start_at starts q) × (start_at high q ≡ None)
  pub above : (q : ℕ) → from ≤ q → (start_at high q ≡ start_at starts q) × (start_at low q ≡ None)
  pub first : IsSome (start_at starts from)
  pub lower : ℕ
  pub lower_low : lower < from
  pub lower_is : IsSome (start_at starts lower)

-- cells, by the numbers from which they reach
abbrev pub CellMap : Type 0
CellMap = ℕ → Option StartList

-- the cell in which a number may stand: that which reaches from it, or else the last one before
unfoldable pub near : CellMap → ℕ → Option StartList
near cells zero = cells zero
near cells (suc number) = option_or (cells (suc number)) (near cells number)

-- what stands at a number, if it is among the starts of the cells
abbrev pub start_near : CellMap → ℕ → Option (Option ℕ)
start_near cells first = option_and_then (λ cell. start_at cell first) (near cells first)

-- a number stands in the cell that reaches from there, if anywhere: none reaches from between
pub record IsHome (cells : CellMap) (from number : ℕ) : Type 0 where
  pub low : from ≤ number
  pub last : (other : ℕ) → from < other → other ≤ number → cells other ≡ None

-- this cell reaches from there, and a number stands in it, if anywhere
pub record IsNear (cells : CellMap) (number from : ℕ) (cell : StartList) : Type 0 where
  pub is : cells from ≡ Some cell
  pub home : IsHome cells from number

-- each number stands in the cell that is looked into for it
abbrev pub AreAtHome : CellMap → Type 0
AreAtHome cells = (from number : ℕ) (cell : StartList) → cells from ≡ Some cell
    → IsSome (start_at cell number) → IsHome cells from number

-- a cell may come that reaches from there: none does, and none from below has a start that high
pub record IsFree (cells : CellMap) (at : ℕ) : Type 0 where
  pub none : cells at ≡ None
  pub below : (from number : ℕ) (cell : StartList) → from < at → cells from ≡ Some cell
      → IsSome (start_at cell number) → number < at

-- cells with the numbers from which they reach, which rise, and the offsets of starts from there
abbrev pub CellList : Type 0
CellList = List (ℕ × StartList)

-- the cell that reaches from this number
abbrev pub cell_at : CellList → CellMap
cell_at cells from = option_map (starts_from from) (lookup (is_at (nat_cmp from)) cells)

-- what stands at a number, if it is among the starts of the cells
abbrev pub start_in : CellList → ℕ → Option (Option ℕ)
start_in cells = start_near (cell_at cells)

-- each number fits 64 bits
abbrev pub AreNumbers : CellList → Type 0
AreNumbers cells = (q : ℕ) → IsSome (start_in cells q) → q < 2 ^ 64
