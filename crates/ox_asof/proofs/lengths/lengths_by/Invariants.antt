use Rattle.std.proofs.Common.{◌≡◌, drop}
use Rattle.ox_asof.specs.Past.{lengths_by, lengths_of}
use Rattle.ox_asof.proofs.lengths.lengths_by.Given as goal

-- what is left to be undone leads on from here
abbrev pub invariant-loop-newest : goal.invariant-loop-newest
invariant-loop-newest g l = lengths_by (drop l.newest l.undone) l.lengths ≡ lengths_by l.undone (lengths_of (g.V.View.index l.view))
