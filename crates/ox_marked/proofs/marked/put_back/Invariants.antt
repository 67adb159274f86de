use Rattle.std.proofs.Common.{◌≡◌, ◌≤◌, ◌<◌, ℕ, Option, drop, length, get_or}
use Rattle.ox_marked.specs.Marked.{standing, before_in, AreLogged}
use Rattle.ox_marked.proofs.marked.put_back.Given as goal

-- the newest changes are put back, and the others are as they were
abbrev pub invariant-loop-left : goal.invariant-loop-left
invariant-loop-left g l = record {
  within : l.left ≤ length l.log;
  front : (k : ℕ) → k < l.left → (d : g.row.K.Denot × Option g.row.V.Denot) → get_or l.log k d ≡ get_or l.fn.log k d;
  content : (q : g.row.K.Denot) → standing g.K.Ord.cmp l.entries q ≡ before_in g.K.Ord.cmp (drop l.left l.fn.log) (standing g.K.Ord.cmp l.fn.entries) q;
  logged : AreLogged g.K.Ord.cmp l.fn.log l.entries;
}

abbrev pub decreases-loop-left : goal.decreases-loop-left
decreases-loop-left g l = l.left
