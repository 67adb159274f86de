use Rattle.std.proofs.Common.{◌≡◌, take, true}
use Rattle.std.specs.Prelude.{◌||◌, is_some}
use Rattle.std.specs.List.{list_all}
use Rattle.ox_runestone.specs.declared.stone.RuneId.{RuneId}
use Rattle.ox_ledger.specs.Runes.{by_id}
use Rattle.ox_sound.specs.Rows.{is_amount}
use Rattle.ox_sound.proofs.new_runes.are_found.Given as goal

abbrev pub invariant-loop-id : goal.invariant-loop-id
invariant-loop-id l = list_all (is_amount (λ (id : RuneId). is_some (by_id l.runes id) || is_some (by_id l.appended id))) (take l.id-index l.balances) ≡ true
