use Rattle.std.proofs.Common.{◌≡◌, ◌≢◌, ℕ, Some, ◌<◌, slice_index_or}
use Rattle.ox_outputs.specs.declared.entry.Entry.{Entry}
use Rattle.ox_block.specs.Keys.{outpoint_tag}
use Rattle.ox_outputs.specs.Slots.{outpoint_at}
use Rattle.ox_outputs.proofs.places.place_in.Given as goal

abbrev pub invariant-loop-entry : goal.invariant-loop-entry
invariant-loop-entry l = (k : ℕ) (d : Entry) → k < l.entry-index → (slice_index_or l.list k d).tag ≡ outpoint_tag l.at
    → outpoint_at l.held.slots (slice_index_or l.list k d).place ≢ Some l.at
