use Rattle.std.proofs.Common.{◌≤◌, ◌-◌, ◌^◌}
use Rattle.ox_asof.specs.Undone.{undone_by}
use Rattle.ox_asof.proofs.Walking.{NoneTo}
use Rattle.ox_asof.proofs.past.PastView.next_on.Given as goal

-- no satoshi up to the one that comes next bears an inscription of then
abbrev pub invariant-loop-found : goal.invariant-loop-found
invariant-loop-found g l = record {
  low : l.sat ≤ l.from;
  none : NoneTo (undone_by (g.V.View.index l.self.view.now) l.self.undone).inscriptions l.sat l.from;
}

abbrev pub decreases-loop-found : goal.decreases-loop-found
decreases-loop-found g l = 2 ^ 64 - l.from
