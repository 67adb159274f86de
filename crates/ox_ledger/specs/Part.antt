-- What of a change between two states is about runes, and how it leads from either state to the
-- other.
use Rattle.std.specs.Prelude.{◌≡◌, ℕ, ◌+◌, ◌-◌, Bool, true, false, ◌&&◌}
use Rattle.std.specs.Prelude.{◌==◌, List, [], ◌∷◌, ◌++◌, length, take}
use Rattle.std.specs.Prelude.{drop, find, Option, Some, None, if◌then◌else◌}
use Rattle.ox_block.specs.declared.block.OutPoint.{OutPoint}
use Rattle.ox_rules.specs.Differences.{Difference, Differ, other_end, reverse_of}
use Rattle.ox_allocation.specs.Balances.{Balance}
use Rattle.ox_etching.specs.declared.row.RuneRow.{RuneRow}
use Rattle.ox_ledger.specs.Runes.{Runes}
pub use Rattle.ox_ledger.specs.declared.part.CountChange.{CountChange}
pub use Rattle.ox_ledger.specs.declared.part.Counts.{Counts}
pub use Rattle.ox_ledger.specs.declared.part.RunePart.{RunePart}

abbrev pub balances_of : RunePart → Difference OutPoint (List Balance)
balances_of part = record { gone = part.before; came = part.after }

abbrev pub counts_of : RuneRow → Counts
counts_of row = record { mints = row.mints; burned = row.burned }

-- a rune with other counts
abbrev pub with_counts : RuneRow → Counts → RuneRow
with_counts row counts = record row { mints = counts.mints; burned = counts.burned }

-- later runes begin with these, but for what is counted of them
abbrev pub Continues : List RuneRow → List RuneRow → Type 0
Continues [] after = Unit {0}
Continues (old ∷ before) [] = ⊥
Continues (old ∷ before) (new ∷ after) =
    (new ≡ with_counts old (counts_of new)) × Continues before after

abbrev pub counts_alike : RuneRow → RuneRow → Bool
counts_alike old new = (old.mints == new.mints) && (old.burned == new.burned)

-- the changed counts of one rune that is at a place, if it is there before and after
abbrev pub change_in : ℕ → Option RuneRow → Option RuneRow → List CountChange
change_in place (Some old) (Some new) =
    if counts_alike old new then []
    else (record { place = place; before = counts_of old; after = counts_of new } ∷ [])
change_in place _ _ = []

-- the changed counts of runes, the first of them at this place
unfoldable pub changes_from : ℕ → List RuneRow → List RuneRow → List CountChange
changes_from place (old ∷ before) (new ∷ after) =
    if counts_alike old new then changes_from (place + 1) before after
    else (record { place = place; before = counts_of old; after = counts_of new }
    ∷ changes_from (place + 1) before after)
changes_from place _ _ = []

-- the part of two states
pub record IsPart (before after : Runes) (part : RunePart) : Type 0 where
  pub balances : Differ before.bal after.bal (balances_of part)
  pub counts : part.counts ≡ changes_from 0 before.runes after.runes
  pub appended : part.appended ≡ drop (length before.runes) after.runes

-- the change at a place, if there is one
abbrev pub change_at : List CountChange → ℕ → Option CountChange
change_at changes place = find (λ change. change.place == place) changes

-- what is counted before a change, or after it
abbrev pub counts_at : Bool → CountChange → Counts
counts_at true change = change.before
counts_at false change = change.after

abbrev pub row_at_end : (CountChange → Counts) → Option CountChange → RuneRow → RuneRow
row_at_end side None row = row
row_at_end side (Some change) row = with_counts row (side change)

-- the runes at one end of the changes, the first of them at this place
unfoldable pub rows_at_end : (CountChange → Counts) → List CountChange → ℕ → List RuneRow
    → List RuneRow
rows_at_end side changes place [] = []
rows_at_end side changes place (row ∷ rows) =
    row_at_end side (change_at changes place) row ∷ rows_at_end side changes (place + 1) rows

-- the state before a part, from the one after it
abbrev pub earlier_end : Runes → RunePart → Runes
earlier_end after part = record {
  bal = other_end after.bal (balances_of part);
  runes = rows_at_end (λ change. change.before) part.counts 0
      (take (length after.runes - length part.appended) after.runes);
  due = [];
}

-- the state after a part, from the one before it
abbrev pub later_end : Runes → RunePart → Runes
later_end before part = record {
  bal = other_end before.bal (reverse_of (balances_of part));
  runes = rows_at_end (λ change. change.after) part.counts 0 before.runes ++ part.appended;
  due = [];
}

-- Two states of which the later one's runes begin with the earlier one's, and nothing is due, have
-- one part, and with either state it gives the other.
pub record LeadsBothWays : Type 0 where
  pub some : (before after : Runes) → (part : RunePart) × IsPart before after part
  pub one : (before after : Runes) (a b : RunePart) → IsPart before after a
      → IsPart before after b → a ≡ b
  pub back : (before after : Runes) (part : RunePart) → Continues before.runes after.runes
      → before.due ≡ [] → IsPart before after part → earlier_end after part ≡ before
  pub forth : (before after : Runes) (part : RunePart) → Continues before.runes after.runes
      → after.due ≡ [] → IsPart before after part → later_end before part ≡ after
