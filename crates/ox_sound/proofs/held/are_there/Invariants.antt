use Rattle.std.proofs.Common.{◌≡◌, take, true}
use Rattle.std.specs.List.{list_all}
use Rattle.ox_sound.specs.Amounts.{is_among}
use Rattle.ox_sound.specs.Rows.{is_amount}
use Rattle.ox_sound.proofs.held.are_there.Given as goal

abbrev pub invariant-loop-id : goal.invariant-loop-id
invariant-loop-id l = list_all (is_amount (is_among l.amounts)) (take l.id-index l.balances) ≡ true
