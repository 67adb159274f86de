use Rattle.std.proofs.Common.{◌≡◌, drop}
use Rattle.std.specs.Option.{option_map}
use Rattle.std.specs.FinMap.{entries}
use Rattle.ox_outputs.specs.Next.{next_of}
use Rattle.ox_outputs.specs.Slots.{rows_of}
use Rattle.ox_outputs.proofs.NextLemmas.{next_among}
use Rattle.ox_outputs.proofs.next.next_in.Given as goal

-- the next row so far, and the places that are left
abbrev pub invariant-loop-place : goal.invariant-loop-place
invariant-loop-place l = next_among l.past (option_map (λ e. (e.0.now, e.1.now)) l.best) (drop l.place l.held.slots) ≡ next_of l.past (entries (rows_of l.held.slots))
