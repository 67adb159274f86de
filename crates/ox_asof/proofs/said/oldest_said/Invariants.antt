use Rattle.std.proofs.Common.{◌≡◌, Option, map, take}
use Rattle.ox_asof.specs.Said.{before_all}
use Rattle.ox_asof.proofs.said.oldest_said.Given as goal

-- the changes behind those that are left say nothing
abbrev pub invariant-loop-place : goal.invariant-loop-place
invariant-loop-place g l =
    (now : Option g.row.X.Denot) → before_all (map g.X.Row.told l.undone) l.at now ≡ before_all (map g.X.Row.told (take l.place l.undone)) l.at now
