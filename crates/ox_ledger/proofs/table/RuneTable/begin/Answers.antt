use Rattle.std.specs.Ordering.{nat_cmp}
use Rattle.ox_marked.specs.Marked.{mark_in}
use Rattle.ox_allocation.specs.Balances.{id_cmp}
use Rattle.ox_ledger.proofs.TableLemmas.{if_from_and, indexed_begun}
use Rattle.ox_ledger.proofs.table.RuneTable.begin.Goals as goal

pub invariant_of-self : goal.invariant_of-self
invariant_of-self c =
    indexed_begun c.self.inside.rows c.begin.new.self c.self.inside.ids c.begin-2.new.self c.self.inside.names c.begin-3.new.self c.begin.ensures.now c.begin.ensures.mark c.begin-2.ensures.content
    c.begin-3.ensures.content (if_from_and _ (mark_in id_cmp c.begin-2.new.self) c.begin-2.ensures.mark) (if_from_and _ (mark_in nat_cmp c.begin-3.new.self) c.begin-3.ensures.mark) c.self.invariant
