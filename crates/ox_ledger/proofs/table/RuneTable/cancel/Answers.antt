use Rattle.std.proofs.Common.{ap, sym, subst, List, Option}
use Rattle.std.specs.Prelude.{IsSome}
use Rattle.std.specs.Ordering.{nat_cmp}
use Rattle.ox_marked.specs.Marked.{mark_in}
use Rattle.ox_allocation.specs.Balances.{id_cmp}
use Rattle.ox_etching.specs.declared.row.RuneRow.{RuneRow}
use Rattle.ox_ledger.proofs.TableLemmas.{indexed_back, marks_of, no_mark_left}
use Rattle.ox_ledger.proofs.table.RuneTable.cancel.Goals as goal

pub invariant_of-self : goal.invariant_of-self
invariant_of-self c =
    let some : IsSome _ = subst (λ (m : Option (List RuneRow)). IsSome m) (sym (ap (λ v. v.mark) c.self.view_is)) c.requires in
    let marks = marks_of c.self.inside.rows.mark (mark_in id_cmp c.self.inside.ids) (mark_in nat_cmp c.self.inside.names) some in
    indexed_back c.self.inside.rows c.cancel.new.self c.self.inside.ids c.cancel-2.new.self c.self.inside.names c.cancel-3.new.self c.cancel.ensures.now marks.0 marks.1 c.cancel-2.ensures.content c.cancel-3.ensures.content
    (no_mark_left c.cancel.new.self c.cancel-2.new.self c.cancel-3.new.self c.cancel.ensures.mark) c.self.invariant
