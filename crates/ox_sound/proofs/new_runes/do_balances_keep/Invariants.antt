use Rattle.std.proofs.Common.{◌≡◌, take, true}
use Rattle.std.specs.Prelude.{◌||◌, is_some}
use Rattle.std.specs.List.{list_all}
use Rattle.ox_runestone.specs.declared.stone.RuneId.{RuneId}
use Rattle.ox_ledger.specs.Runes.{Placement, by_id}
use Rattle.ox_sound.specs.Rows.{are_amounts}
use Rattle.ox_sound.proofs.new_runes.do_balances_keep.Given as goal

abbrev pub invariant-loop-balances : goal.invariant-loop-balances
invariant-loop-balances l =
    list_all (λ (row : Placement). are_amounts (λ (id : RuneId). is_some (by_id l.runes id) || is_some (by_id l.appended id)) row.1) (take l.balances-index l.came) ≡ true
