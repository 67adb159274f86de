-- Whether a change ends or begins in an index, as a test of the change against that index alone.
use Rattle.std.specs.Prelude.{ℕ, ◌+◌, ◌-◌, Bool, true, false, not, ◌&&◌, ◌==◌, List, [], ◌∷◌}
use Rattle.std.specs.Prelude.{length, take, Option, Some, None, is_some, nat_le, slice_get}
use Rattle.std.specs.Prelude.{bytes_eq}
use Rattle.std.specs.List.{ends_with, list_all}
use Rattle.std.specs.FinMap.{FinMap, find, get, is_sorted}
use Rattle.std.specs.declared.cmp.Ordering.{Ordering}
use Rattle.ox_rules.specs.Differences.{Difference, reverse_of}
use Rattle.ox_etching.specs.declared.row.RuneRow.{RuneRow}
use Rattle.ox_ledger.specs.Part.{balances_of, counts_at, counts_of}
use Rattle.ox_ledger.specs.declared.part.CountChange.{CountChange}
use Rattle.ox_ledger.specs.declared.part.Counts.{Counts}
use Rattle.ox_ledger.specs.declared.part.RunePart.{RunePart}
use Rattle.ox_ledger.specs.Runes.{Runes}
use Rattle.ox_model.specs.Change.{outputs_changed, redone, undone}
use Rattle.ox_model.specs.Index.{Index, runes_of}
use Rattle.ox_model.specs.declared.change.Change.{Change}
use Rattle.ox_plain.specs.Same.{same_balances, same_counts, same_inscription, same_output}
use Rattle.ox_plain.specs.Same.{same_rune}

-- ---- outputs and balances

-- a row stands as it is
abbrev pub stands : {X : Type 0} → (X → X → Bool) → Option X → X → Bool
stands same None row = false
stands same (Some stood) row = same stood row

-- a row gave way: where it was nothing stands, or another row that came
abbrev pub gave_way : {X : Type 0} → (X → X → Bool) → Option X → Option X → X → Bool
gave_way same None came row = true
gave_way same (Some stood) came row = not (same stood row) && is_some came

-- a difference ends in a map: its keys rise, each row that came stands there, and each that is gone
-- gave way
abbrev pub difference_ends : {K X : Type 0} {R : K → K → Ordering}
    → (X → X → Bool) → FinMap R X → Difference K X → Bool
difference_ends {R = R} same after difference =
    is_sorted R difference.gone
    && (is_sorted R difference.came
    && (list_all (λ row. stands same (get after row.0) row.1) difference.came
    && list_all (λ row. gave_way same (get after row.0) (find R row.0 difference.came) row.1)
    difference.gone))

-- ---- runes

-- the places of changes rise, from this one on
abbrev pub places_rise : ℕ → List CountChange → Bool
places_rise place [] = true
places_rise place (change ∷ changes) =
    nat_le place change.place && places_rise (change.place + 1) changes

-- a rune is there, and this is counted of it
abbrev pub has_counts : Option RuneRow → Counts → Bool
has_counts None counts = false
has_counts (Some row) counts = same_counts (counts_of row) counts

-- what is counted of runes is what stands at this side of changes, each of which changes something
abbrev pub counts_stand : (CountChange → Counts) → List RuneRow → List CountChange → Bool
counts_stand side rows changes =
    places_rise 0 changes
    && list_all (λ change. has_counts (slice_get rows change.place) (side change)
    && not (same_counts change.before change.after)) changes

-- the runes before those that were appended
abbrev pub earlier_runes : List RuneRow → RunePart → List RuneRow
earlier_runes rows part = take (length rows - length part.appended) rows

abbrev pub part_ends : Runes → RunePart → Bool
part_ends after part =
    difference_ends same_balances after.bal (balances_of part)
    && (ends_with same_rune after.runes part.appended
    && counts_stand (counts_at false) (earlier_runes after.runes part) part.counts)

abbrev pub part_begins : Runes → RunePart → Bool
part_begins before part =
    difference_ends same_balances before.bal (reverse_of (balances_of part))
    && counts_stand (counts_at true) before.runes part.counts

-- ---- indexes

-- a change ends in an index: there its hash, its inscriptions and its lost satoshis are the last,
-- and outputs and runes are as after it
abbrev pub ends_in : Index → Change → Bool
ends_in index change =
    ends_with bytes_eq index.hashes (change.hash ∷ [])
    && (difference_ends same_output index.outs (outputs_changed change)
    && (ends_with same_inscription index.inscriptions change.inscriptions
    && (part_ends (runes_of index) change.runes
    && ends_with ◌==◌ index.lost change.lost)))

-- a change begins in an index: outputs and runes are as before it
abbrev pub begins_in : Index → Change → Bool
begins_in index change =
    difference_ends same_output index.outs (reverse_of (outputs_changed change))
    && part_begins (runes_of index) change.runes

-- ---- either way

-- whether an index is at this end of a change: the later one where `back` is true
abbrev pub is_at_end : Bool → Index → Change → Bool
is_at_end true index change = ends_in index change
is_at_end false index change = begins_in index change

-- the index at the change's other end
abbrev pub other_side : Bool → Index → Change → Index
other_side true index change = undone index change
other_side false index change = redone index change
