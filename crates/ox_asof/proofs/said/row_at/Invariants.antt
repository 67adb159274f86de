use Rattle.std.proofs.Common.{◌≡◌, length}
use Rattle.std.specs.Prelude.{IsTrue}
use Rattle.std.specs.FinMap.{find, is_sorted}
use Rattle.ox_rules.specs.Outputs.{outpoint_cmp}
use Rattle.ox_asof.proofs.said.row_at.Given as goal

-- what is found among all is found among those that are left
abbrev pub invariant-loop-left : goal.invariant-loop-left
invariant-loop-left g l = record {
  sorted : IsTrue (is_sorted outpoint_cmp l.left);
  same : find outpoint_cmp l.at l.left ≡ find outpoint_cmp l.at l.rows;
}

abbrev pub decreases-loop-left : goal.decreases-loop-left
decreases-loop-left g l = length l.left
