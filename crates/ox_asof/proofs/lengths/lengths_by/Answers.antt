use Rattle.std.proofs.Common.{◌∙◌, ◌+◌, List, drop, ap, sym}
use Rattle.ox_model.specs.declared.change.Change.{Change}
use Rattle.ox_asof.specs.Past.{lengths_by}
use Rattle.ox_asof.proofs.Fronts.{drop_one}
use Rattle.ox_asof.proofs.lengths.lengths_by.Goals as goal

pub loop-newest-preserved : goal.loop-newest-preserved
loop-newest-preserved g c =
    let undone = c.args.undone.now in
    let n = c.loop-newest.newest in
    ap (lengths_by (drop (n + 1) undone)) c.lengths_before-lengths.ensures
    ∙ sym (ap (λ (l : List Change). lengths_by l c.loop-newest.lengths) (drop_one undone n c.at.result.now c.at.ensures))
    ∙ c.loop-newest.invariant
