use Rattle.std.proofs.Common.{◌≡◌, ◌≤◌, ◌++◌, drop, length}
use Rattle.std.specs.Prelude.{All}
use Rattle.std.specs.Vec.{vec_len, vec_capacity}
use Rattle.ox_outputs.specs.Differing.{numbered_from, outpoint_in, pairs_in}
use Rattle.ox_outputs.specs.Fronts.{IsFronted}
use Rattle.ox_outputs.proofs.differing.numbered.Given as goal

-- those so far, and those of the changes that are left
abbrev pub invariant-loop-spot : goal.invariant-loop-spot
invariant-loop-spot l = record {
  len : vec_len l.places ≡ l.spot-index;
  room : length l.changed ≤ vec_capacity l.places;
  pairs : pairs_in l.changed l.places.items ++ numbered_from l.spot-index (drop l.spot-index l.changed) ≡ numbered_from 0 l.changed;
  fronts : All (IsFronted (outpoint_in l.changed)) l.places.items;
}
