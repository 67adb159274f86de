use Rattle.std.proofs.Common.{◌-◌, sym, subst}
use Rattle.ox_ledger.specs.Indexed.{AreAllIndexed}
use Rattle.ox_ledger.proofs.DropLemmas.{indexed_least, indexed_less}
use Rattle.ox_ledger.proofs.TableLemmas.{Names, either}
use Rattle.ox_ledger.proofs.table.RuneTable.drop_last.Goals as goal

pub invariant_of-self-2 : goal.invariant_of-self-2
invariant_of-self-2 c =
    either c.put-2.result c.put-2.ensures.content c.put-2.ensures.err
    (λ put.
    indexed_least c.self.inside.rows c.cut.new.self c.self.inside.ids c.put.new.self c.self.inside.names c.put-2.new.self (c.len-place.result - 1) c.get-row.result.now c.cut.ensures c.get-row.ensures
    c.in_ok-put.ensures.content c.put.ensures.mark put c.put-2.ensures.mark c.self.invariant)
    (λ same.
    subst (λ (n : Names). AreAllIndexed c.cut.new.self c.put.new.self n) (sym same)
    (indexed_less c.self.inside.rows c.cut.new.self c.self.inside.ids c.put.new.self c.self.inside.names (c.len-place.result - 1) c.get-row.result.now c.cut.ensures c.get-row.ensures
    c.in_ok-put.ensures.content c.put.ensures.mark c.self.invariant))
