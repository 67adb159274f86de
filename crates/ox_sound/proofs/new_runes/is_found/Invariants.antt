use Rattle.std.proofs.Common.{◌≡◌, length, true}
use Rattle.std.specs.Prelude.{is_some}
use Rattle.ox_ledger.specs.Runes.{by_id}
use Rattle.ox_sound.proofs.new_runes.is_found.Given as goal

-- what is found among those that are left is found among all
abbrev pub invariant-loop-left : goal.invariant-loop-left
invariant-loop-left l = is_some (by_id l.left l.id) ≡ true → is_some (by_id l.runes l.id) ≡ true

abbrev pub decreases-loop-left : goal.decreases-loop-left
decreases-loop-left l = length l.left
