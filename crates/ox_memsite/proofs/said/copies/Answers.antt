use Rattle.std.proofs.Common.{◌∙◌, ◌++◌, List, ap, sym, take}
use Rattle.ox_memsite.specs.Script.{without_empty, kept_said}
use Rattle.ox_memsite.specs.declared.said.Said.{Said}
use Rattle.ox_memsite.proofs.Replayed.{without_empty-push}
use Rattle.ox_memsite.proofs.said.copies.Goals as goal

pub loop-entry-preserved : goal.loop-entry-preserved
loop-entry-preserved c =
    let entry = c.entry-item.result in
    let so_far = without_empty (take c.loop-entry.entry-index c.args.script.now) in
    c.in_ok-append_copy.ensures
    ∙ ap (λ (l : List Said). l ++ kept_said entry) c.loop-entry.invariant
    ∙ ap (λ (s : Said). so_far ++ kept_said s) c.entry-item.is
    ∙ sym (without_empty-push c.args.script.now c.loop-entry.entry-index entry c.loop-entry-test.true)
