use Rattle.std.proofs.Common.{◌≡◌, ℕ, length}
use Rattle.ox_ledger.specs.Marks.{AreOfPlaces, stood_in}
use Rattle.ox_ledger.proofs.kept.Kept.put_back.Given as goal

-- at each place there stands, or is kept, what stood there
abbrev pub invariant-loop-place : goal.invariant-loop-place
invariant-loop-place g l = record {
  stood : (q : ℕ) → stood_in (record { items = l.self-inside.items.items; stood = l.self-inside.stood.entries }) q
      ≡ stood_in (record { items = l.initial.self-inside.items.items; stood = l.initial.self-inside.stood.entries }) q;
  places : AreOfPlaces l.self-inside.stood.entries l.self-inside.items.items;
}

abbrev pub decreases-loop-place : goal.decreases-loop-place
decreases-loop-place g l = length l.self-inside.stood.entries
