use Rattle.std.proofs.Common.{◌≡◌, ◌++◌, length}
use Rattle.ox_replies.specs.Named.{without_escapes}
use Rattle.ox_query.proofs.rune_named.without_escapes.Given as goal

abbrev pub invariant-loop-front : goal.invariant-loop-front
invariant-loop-front l = l.read ++ without_escapes l.rest ≡ without_escapes l.text

abbrev pub decreases-loop-front : goal.decreases-loop-front
decreases-loop-front l = length l.rest
