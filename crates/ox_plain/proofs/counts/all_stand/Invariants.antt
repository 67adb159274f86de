use Rattle.std.proofs.Common.{◌≡◌, drop, not}
use Rattle.std.specs.Prelude.{◌&&◌, slice_get}
use Rattle.std.specs.List.{list_all}
use Rattle.ox_ledger.specs.Part.{counts_at}
use Rattle.ox_plain.specs.Ends.{has_counts}
use Rattle.ox_plain.specs.Same.{same_counts}
use Rattle.ox_plain.proofs.counts.all_stand.Given as goal

-- all stand exactly where those that are left do
abbrev pub invariant-loop-change : goal.invariant-loop-change
invariant-loop-change l =
    list_all (λ change. has_counts (slice_get l.runes change.place) (counts_at l.before change) && not (same_counts change.before change.after)) (drop l.change-index l.changes)
    ≡ list_all (λ change. has_counts (slice_get l.runes change.place) (counts_at l.before change) && not (same_counts change.before change.after)) l.changes
