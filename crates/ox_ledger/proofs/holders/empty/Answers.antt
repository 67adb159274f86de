use Rattle.std.proofs.Common.{None}
use Rattle.ox_ledger.proofs.HolderLemmas.{held_put, on_ok, then_same}
use Rattle.ox_ledger.proofs.holders.empty.Goals as goal

pub returns-clause-ok : goal.returns-clause-ok
returns-clause-ok c = on_ok c.put.result (λ is. held_put c.args.holders.now c.put.new.self c.args.at.now None is) c.put.ensures.content

pub returns-clause-mark : goal.returns-clause-mark
returns-clause-mark c = then_same c.args.holders.now c.put.new.self c.put.ensures.mark
