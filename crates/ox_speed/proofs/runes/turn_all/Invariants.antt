use Rattle.std.proofs.Common.{◌≡◌}
use Rattle.ox_ledger.specs.Ledger.{mark_in}
use Rattle.ox_speed.proofs.runes.turn_all.Given as goal

abbrev pub invariant-loop-tx : goal.invariant-loop-tx
invariant-loop-tx l = mark_in l.ledger ≡ mark_in l.fn.ledger
