use Rattle.std.proofs.Common.{drop}
use Rattle.std.specs.BTreeMap.{get}
use Rattle.std.specs.Ordering.{nat_cmp}
use Rattle.ox_asof.specs.Past.{AreRecounted, counted_by}
use Rattle.ox_asof.proofs.recounted.recounted.Given as goal

-- those of the older changes are kept
abbrev pub invariant-loop-place : goal.invariant-loop-place
invariant-loop-place g l =
    AreRecounted (g.V.View.index l.view).runes l.end (counted_by (drop l.place l.undone)) (get nat_cmp l.rows)
