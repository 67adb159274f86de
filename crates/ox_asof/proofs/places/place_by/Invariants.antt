use Rattle.std.proofs.Common.{◌≡◌, drop}
use Rattle.ox_asof.specs.Places.{place_by}
use Rattle.ox_asof.proofs.places.place_by.Given as goal

-- what is left to be undone leads on from where it is now
abbrev pub invariant-loop-newest : goal.invariant-loop-newest
invariant-loop-newest l = place_by (drop l.newest l.undone) l.fewer l.sat l.found ≡ place_by l.undone l.lost l.sat l.fn.place
