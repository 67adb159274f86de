use Rattle.std.proofs.Common.{ap, sym, subst, List, Option}
use Rattle.std.specs.Prelude.{IsSome}
use Rattle.std.specs.Ordering.{nat_cmp}
use Rattle.ox_marked.specs.Marked.{mark_in}
use Rattle.ox_allocation.specs.Balances.{id_cmp}
use Rattle.ox_etching.specs.declared.row.RuneRow.{RuneRow}
use Rattle.ox_ledger.proofs.TableLemmas.{indexed_back, marks_of, mark_stays}
use Rattle.ox_ledger.proofs.table.RuneTable.restore.Goals as goal

pub invariant_of-self : goal.invariant_of-self
invariant_of-self c =
    let some : IsSome _ = subst (λ (m : Option (List RuneRow)). IsSome m) (sym (ap (λ v. v.mark) c.self.view_is)) c.requires in
    let marks = marks_of c.self.inside.rows.mark (mark_in id_cmp c.self.inside.ids) (mark_in nat_cmp c.self.inside.names) some in
    indexed_back c.self.inside.rows c.restore.new.self c.self.inside.ids c.restore-2.new.self c.self.inside.names c.restore-3.new.self c.restore.ensures.now marks.0 marks.1 c.restore-2.ensures.content c.restore-3.ensures.content
    (mark_stays c.self.inside.rows c.restore.new.self c.self.inside.ids c.restore-2.new.self c.self.inside.names c.restore-3.new.self c.restore.ensures.mark c.restore-2.ensures.mark c.restore-3.ensures.mark c.self.invariant) c.self.invariant
