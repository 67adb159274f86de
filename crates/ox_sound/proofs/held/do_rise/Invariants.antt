use Rattle.std.proofs.Common.{◌≡◌, ◌-◌, drop}
use Rattle.ox_sound.specs.Rows.{rise}
use Rattle.ox_sound.proofs.held.do_rise.Given as goal

abbrev pub invariant-loop-next : goal.invariant-loop-next
invariant-loop-next l = rise (drop (l.next - 1) l.balances) ≡ rise l.balances
