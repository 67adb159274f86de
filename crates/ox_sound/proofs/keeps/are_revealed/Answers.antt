use Rattle.std.proofs.Common.{◌∙◌, ap, refl, sym}
use Rattle.ox_sound.specs.Sound.{is_revealed}
use Rattle.ox_sound.proofs.PassLemmas.{no_more, one_more}
use Rattle.ox_sound.proofs.keeps.are_revealed.Goals as goal

pub loop-shared-init : goal.loop-shared-init
loop-shared-init c = refl

pub loop-shared-preserved : goal.loop-shared-preserved
loop-shared-preserved c =
    let test = is_revealed c.args.blocks c.args.first in
    let here = ap test (sym c.row.ensures) ∙ sym c.is_revealed.ensures ∙ c.if-not-is_revealed.false in
    one_more test c.args.rows.now c.args.rows.now c.loop-shared.shared-index c.shared-item.result refl c.loop-shared-test.true c.shared-item.is c.loop-shared.invariant here

pub returns : goal.returns
returns c = λ yes.
    no_more (is_revealed c.args.blocks c.args.first) c.args.rows.now c.args.rows.now c.loop-shared.shared-index refl c.loop-shared-test.false c.loop-shared.invariant
