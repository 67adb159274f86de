use Rattle.std.proofs.Common.{ap₂, sym, ◌∙◌, ◌++◌, ◌∷◌, [], List}
use Rattle.std.proofs.lemmas.List.{take_more}
use Rattle.ox_inscribe.specs.declared.row.InsRow.{InsRow}
use Rattle.ox_inscribe.proofs.shelf.share_all.Goals as goal

pub loop-row-preserved : goal.loop-row-preserved
loop-row-preserved c =
    c.in_ok-push.ensures.ok
    ∙ ap₂ (λ (front : List InsRow) (row : InsRow). front ++ row ∷ []) c.loop-row.invariant (c.in_ok-share.ensures ∙ c.row-item.is)
    ∙ sym (take_more c.args.rows.now c.loop-row.row-index c.row-item.result c.loop-row-test.true)
