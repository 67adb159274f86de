use Rattle.std.proofs.Common.{◌∙◌, sym, ap, refl}
use Rattle.ox_script.specs.Shape.{is_return}
use Rattle.ox_allocation.proofs.Holders.{holds_all, holds_none, holds_one}
use Rattle.ox_allocation.proofs.deal.holders_of.Goals as goal
use Rattle.ox_allocation.proofs.deal.holders_of.Goals.{then-not-is_return+in_ok-push, else-not-is_return}

pub loop-place-preserved : goal.loop-place-preserved
loop-place-preserved c = elim c.if-not-is_return.branch [
  | then-not-is_return+in_ok-push w ↦
      let test = ap is_return (sym c.as_slice.ensures) ∙ sym w.if-not-is_return.ensures in
      rw w.holders-is (holds_one c.args.outputs.now c.loop-place.place c.index-outputs-place.result _ _ _ c.loop-place-test.true c.index-outputs-place.is test c.loop-place.invariant w.in_ok-push.ensures.items)
  | else-not-is_return w ↦
      let test = ap is_return (sym c.as_slice.ensures) ∙ sym w.if-not-is_return.ensures in
      rw w.holders-is (holds_none c.args.outputs.now c.loop-place.place c.index-outputs-place.result _ _ _ c.loop-place-test.true c.index-outputs-place.is test c.loop-place.invariant refl)
]

pub returns : goal.returns
returns c = holds_all c.args.outputs.now c.loop-place.place _ _ c.loop-place-test.false c.loop-place.invariant
