use Rattle.std.proofs.Common.{ℕ, Option, take}
use Rattle.std.specs.BTreeMap.{get}
use Rattle.std.specs.Option.{option_or}
use Rattle.std.specs.Ordering.{nat_cmp}
use Rattle.ox_ledger.specs.declared.part.Counts.{Counts}
use Rattle.ox_asof.specs.Past.{AreRecounted, counted_before}
use Rattle.ox_asof.proofs.recounted.keep_first.Given as goal

-- those of the changes so far are kept
abbrev pub invariant-loop-change : goal.invariant-loop-change
invariant-loop-change g l =
    (counts : ℕ → Option Counts) → AreRecounted (g.V.View.index l.view).runes l.end counts (get nat_cmp l.fn.rows)
    → AreRecounted (g.V.View.index l.view).runes l.end (λ place. option_or (counts place) (counted_before (take l.change-index l.changes) place)) (get nat_cmp l.rows)
