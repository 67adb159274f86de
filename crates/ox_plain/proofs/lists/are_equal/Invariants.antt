use Rattle.std.proofs.Common.{◌≡◌, drop}
use Rattle.std.specs.Cmp.Lexicographic.{pointwise}
use Rattle.ox_plain.proofs.lists.are_equal.Given as goal

-- all are the same exactly where those that are left are
abbrev pub invariant-loop-place : goal.invariant-loop-place
invariant-loop-place g l = pointwise g.X.Row.same (drop l.place l.rows) (drop l.place l.others) ≡ pointwise g.X.Row.same l.rows l.others
