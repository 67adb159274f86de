use Rattle.std.proofs.Common.{◌≡◌, ◌-◌, ◌≤◌, ◌++◌, drop, length}
use Rattle.ox_rules.specs.Outputs.{sats_of}
use Rattle.ox_inscribe.specs.Reveal.{sightings_from, sources_of}
use Rattle.ox_inscribe.proofs.sightings.sightings_of.Given as goal

-- the envelopes so far, and those that are left
abbrev pub invariant-loop-place : goal.invariant-loop-place
invariant-loop-place l = record {
  so_far : l.seen.items ++ sightings_from l.place (l.held - l.left) (sources_of (drop l.place l.inputs) (drop l.place l.spent)) ≡ sightings_from 0 0 (sources_of l.inputs l.spent);
  left : l.left ≡ length (sats_of (drop l.place l.spent));
  within : l.left ≤ l.held;
}
