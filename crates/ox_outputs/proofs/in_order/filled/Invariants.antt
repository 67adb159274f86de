use Rattle.std.proofs.Common.{◌≡◌, ◌++◌, drop, map}
use Rattle.std.specs.Prelude.{All}
use Rattle.ox_outputs.specs.InOrder.{IsFilled, entries_in, entry_of}
use Rattle.ox_outputs.proofs.in_order.filled.Given as goal

-- the rows so far, and those of the places that are left
abbrev pub invariant-loop-place : goal.invariant-loop-place
invariant-loop-place l = record {
  entries : map (entry_of l.held.slots) l.places.items ++ entries_in (drop l.place l.held.slots) ≡ entries_in l.held.slots;
  fronts : All (IsFilled l.held.slots) l.places.items;
}
