use Rattle.std.proofs.Common.{◌∷◌, take}
use Rattle.json.specs.Token.{begin_array}
use Rattle.ox_replies.specs.Runes.{balance_among}
use Rattle.ox_query.specs.Written.{Adds}
use Rattle.ox_query.proofs.Filtered.{told_of}
use Rattle.ox_query.proofs.balances.write_balances.Given as goal

abbrev pub invariant-loop-balance : goal.invariant-loop-balance
invariant-loop-balance g l =
    Adds l.fn.out l.out (begin_array ∷ told_of (balance_among (g.V.View.index l.live).runes) (take l.balance-index l.balances))
