use Rattle.ox_ledger.proofs.TablesLemmas.{copied}
use Rattle.ox_ledger.proofs.tables.copies.Goals as goal

pub loop-place-preserved : goal.loop-place-preserved
loop-place-preserved c =
    copied c.args.list.now.now c.loop-place.copies.items c.push.new.self.items c.loop-place.place c.get.result.now c.in_ok-copy.field-0 c.get.ensures c.loop-place.invariant c.in_ok-push.ensures.items c.in_ok-copy.ensures
