use Rattle.std.proofs.Common.{◌≡◌, ℕ, true, ◌<◌, slice_index_or}
use Rattle.ox_shards.specs.Lines.{is_last}
use Rattle.ox_outputs.specs.declared.entry.Entry.{Entry}
use Rattle.ox_outputs.specs.Lists.{is_in}
use Rattle.ox_outputs.proofs.places.going.Given as goal

abbrev pub invariant-loop-entry : goal.invariant-loop-entry
invariant-loop-entry l = (k : ℕ) (d : Entry) → k < l.entry-index → is_last l.lines (slice_index_or l.list k d).tag ≡ true
    → is_in l.last.items (slice_index_or l.list k d).tag (slice_index_or l.list k d).place ≡ true
