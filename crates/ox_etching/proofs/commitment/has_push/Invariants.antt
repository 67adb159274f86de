use Rattle.std.proofs.Common.{◌≡◌}
use Rattle.std.specs.List.{list_any}
use Rattle.ox_etching.specs.Commitment.{has_push, pushes}
use Rattle.ox_etching.proofs.commitment.has_push.Given as goal

-- one of the items to come pushes the bytes exactly where one of the script's does
abbrev pub invariant-loop-item : goal.invariant-loop-item
invariant-loop-item l =
    (goal.iterator-loop-item).can_next l.item-iterator × (goal.iterator-loop-item).is_finite l.item-iterator
    × (has_push l.bytes l.script ≡ list_any (pushes l.bytes) l.item-iterator.left)
