-- What is known of a view's index before some changes.
use Rattle.std.specs.Prelude.{◌≡◌, ℕ, ◌-◌, ◌<◌, List, [], ◌∷◌, length, Option, Some, None}
use Rattle.std.specs.Prelude.{nat_lt, slice_get, if◌then◌else◌}
use Rattle.std.specs.Option.{option_map, option_or}
use Rattle.ox_etching.specs.declared.row.RuneRow.{RuneRow}
use Rattle.ox_ledger.specs.Part.{change_at, with_counts}
use Rattle.ox_ledger.specs.declared.part.CountChange.{CountChange}
use Rattle.ox_ledger.specs.declared.part.Counts.{Counts}
use Rattle.ox_model.specs.Index.{Index}
use Rattle.ox_model.specs.declared.change.Change.{Change}
use Rattle.ox_asof.specs.declared.lengths.Lengths.{Lengths}

-- how much there is of each list of an index
abbrev pub lengths_of : Index → Lengths
lengths_of index = record {
  blocks = length index.hashes;
  lost = length index.lost;
  inscriptions = length index.inscriptions;
  runes = length index.runes;
}

-- how much there is of them before a change
abbrev pub lengths_before : Change → Lengths → Lengths
lengths_before change lengths = record {
  blocks = lengths.blocks - 1;
  lost = lengths.lost - length change.lost;
  inscriptions = lengths.inscriptions - length change.inscriptions;
  runes = lengths.runes - length change.runes.appended;
}

-- and before some changes, the newest first
abbrev pub lengths_by : List Change → Lengths → Lengths
lengths_by [] lengths = lengths
lengths_by (change ∷ changes) lengths = lengths_by changes (lengths_before change lengths)

-- what was counted of the rune at a place before these changes, where one of them says so
abbrev pub counted_before : List CountChange → ℕ → Option Counts
counted_before changes place = option_map (λ change. change.before) (change_at changes place)

-- what was counted of it before some changes, the newest first: the oldest that says so decides
abbrev pub counted_by : List Change → ℕ → Option Counts
counted_by [] place = None
counted_by (change ∷ changes) place =
    option_or (counted_by changes place) (counted_before change.runes.counts place)

-- these are the rows of runes below an end of which counts are told, with these counts
abbrev pub AreRecounted : List RuneRow → ℕ → (ℕ → Option Counts) → (ℕ → Option RuneRow) → Type 0
AreRecounted runes end counts rows =
    (place : ℕ) (row : RuneRow) → place < end → slice_get runes place ≡ Some row
    → rows place ≡ option_map (with_counts row) (counts place)

-- a number, if it is below an end
abbrev pub number_below : ℕ → Option ℕ → Option ℕ
number_below end None = None
number_below end (Some number) = if nat_lt number end then Some number else None
