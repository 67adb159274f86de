use Rattle.std.proofs.Common.{subst, sym}
use Rattle.ox_rules.specs.Differences.{AreGone}
use Rattle.ox_model.specs.Change.{IsChange}
use Rattle.ox_store.specs.Ready.{Moves}
use Rattle.ox_store.specs.declared.ready.Moving.{Moving}
use Rattle.ox_desk.proofs.held.step.Goals as goal

pub returns-in-On : goal.returns-in-On
returns-in-On c = λ before after moves stood.
    let change : IsChange before after c.in-On.change.now = subst (λ (m : Moving). Moves before after m) c.in-On.is moves in
    c.step.ensures before.outs after.outs stood
    (subst (AreGone before.outs after.outs) (sym c.as_slice.ensures) change.gone)
    (subst (AreGone after.outs before.outs) (sym c.as_slice-in-On.ensures) change.came)

pub returns-in-Back : goal.returns-in-Back
returns-in-Back c = λ before after moves stood.
    let change : IsChange after before c.in-Back.change.now = subst (λ (m : Moving). Moves before after m) c.in-Back.is moves in
    c.step-in-Back.ensures before.outs after.outs stood
    (subst (AreGone before.outs after.outs) (sym c.as_slice-in-Back.ensures) change.came)
    (subst (AreGone after.outs before.outs) (sym c.as_slice-in-Back-2.ensures) change.gone)
