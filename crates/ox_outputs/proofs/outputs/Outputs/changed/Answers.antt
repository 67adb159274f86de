use Rattle.std.proofs.Common.{◌≡◌, ◌∙◌, subst}
use Rattle.ox_rules.specs.Differences.{Differ}
use Rattle.ox_rules.specs.Outputs.{Outputs as Rows}
use Rattle.ox_outputs.specs.Slots.{rows_of, undone}
use Rattle.ox_outputs.proofs.DifferingRows.{if_ok, mark_is}
use Rattle.ox_outputs.proofs.outputs.Outputs.changed.Goals as goal

pub returns : goal.returns
returns c =
    let outputs = c.args.self.now in
    let rows : Rows = rows_of outputs.slots in
    let marked : undone c.deref-2.result.now c.deref.result.now rows ≡ undone outputs.before.items outputs.changed.items rows = λ i. undone (c.deref-2.ensures.value i) (c.deref.ensures.value i) rows in
    if_ok c.differing.result _ _
    (λ lists differ before is. subst (λ (o : Rows). Differ o rows (record { gone = lists.0; came = lists.1 })) (marked ∙ mark_is outputs.marked (undone outputs.before.items outputs.changed.items rows) before is) differ)
    c.differing.ensures
