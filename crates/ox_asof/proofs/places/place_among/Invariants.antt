use Rattle.std.proofs.Common.{◌≡◌, drop}
use Rattle.ox_rules.specs.Where.{place_among}
use Rattle.ox_asof.proofs.places.place_among.Given as goal

-- the first that hold it are among those that are left
abbrev pub invariant-loop-at : goal.invariant-loop-at
invariant-loop-at l = place_among (drop l.at-index l.outputs) l.sat ≡ place_among l.outputs l.sat
