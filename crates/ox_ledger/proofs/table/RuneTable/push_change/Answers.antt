use Rattle.std.proofs.Common.{◌≡◌, ◌∙◌, ◌++◌, ap, length, subst, Option, List}
use Rattle.std.specs.Prelude.{slice_get}
use Rattle.std.specs.Option.{IfSome}
use Rattle.std.specs.Ordering.{nat_cmp}
use Rattle.ox_marked.specs.Marked.{mark_in}
use Rattle.ox_allocation.specs.Balances.{id_cmp}
use Rattle.ox_etching.specs.declared.row.RuneRow.{RuneRow}
use Rattle.ox_ledger.specs.Part.{change_in}
use Rattle.ox_ledger.proofs.CountLemmas.{if_indexed, past_now, past_then}
use Rattle.ox_ledger.proofs.table.RuneTable.push_change.Goals as goal
use Rattle.ox_ledger.proofs.table.RuneTable.push_change.Goals.{then-place-len_then-via-then-place-len_then, then-place-len_then-via-else-place-len_then+then-place-len}

pub returns-then-place-len_then : goal.returns-then-place-len_then
returns-then-place-len_then c = elim c.then-place-len_then.branch [
  | then-place-len_then-via-then-place-len_then w ↦
      subst (λ (m : Option (List RuneRow)). IfSome m (λ before. c.args.counts.now ≡ c.args.counts.now ++ change_in c.args.place (slice_get before c.args.place) (slice_get c.args.self.now.now c.args.place)))
      (ap (λ v. v.mark) c.self.view_is)
      (if_indexed (λ before. c.args.counts.now ≡ c.args.counts.now ++ change_in c.args.place (slice_get before c.args.place) (slice_get c.args.self.now.now c.args.place)) c.self.inside.rows.mark (mark_in id_cmp c.self.inside.ids) (mark_in nat_cmp c.self.inside.names) (past_then c.self.inside.rows.mark c.args.self.now.now c.args.counts.now c.args.place c.len_then.result c.len_then.ensures w.if-place-len_then.true))
  | then-place-len_then-via-else-place-len_then+then-place-len w ↦
      past_now c.args.self.now.mark c.args.self.now.now c.args.counts.now c.args.place w.len.result (w.len.ensures ∙ ap (λ v. length v.now) c.self.view_is) w.if-place-len.true
]
