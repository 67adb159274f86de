use Rattle.std.proofs.Common.{arith, sym, ◌∙◌}
use Rattle.std.proofs.lemmas.Bool.{cond-false}
use Rattle.ox_inscribe.proofs.SeenLaws.{too_much}
use Rattle.ox_inscribe.proofs.scene.number_below.Goals as goal

pub returns-in_err-checked_mul : goal.returns-in_err-checked_mul
returns-in_err-checked_mul c =
    c.from_residual.ensures
    ∙ sym (cond-false _ _ _ (too_much c.args.bytes.now c.args.end c.loop-behind.number c.loop-behind.behind c.loop-behind-test.true c.loop-behind.invariant (omega (arith, c.in_err-checked_mul.ensures)) (omega (arith, c.ranges.end.fits))))
