use Rattle.std.proofs.Common.{sym, subst}
use Rattle.ox_ledger.proofs.Brought.{Rise, at_rises}
use Rattle.ox_ledger.proofs.Fresh.{all_rise}
use Rattle.ox_model.specs.Index.{runes_of}
use Rattle.ox_held.proofs.held.Gathered.add.Goals as goal

pub join-requires-clause-proper : goal.join-requires-clause-proper
join-requires-clause-proper g c =
    let index = g.V.View.index c.args.live.now in
    let sound = g.met.V.View.sound c.args.live.now in
    subst Rise (sym c.balance.ensures) (at_rises index.bal c.args.at.now (all_rise (runes_of index) sound.runes.balanced))
