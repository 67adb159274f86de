use Rattle.std.proofs.Common.{◌∙◌, ap, refl, sym}
use Rattle.ox_plain.specs.Plain.{index_in}
use Rattle.ox_sound.specs.Sound.{is_revealed}
use Rattle.ox_sound.proofs.PassLemmas.{inscriptions_are, no_more, one_fails, one_more}
use Rattle.ox_sound.proofs.sound.are_inscriptions_sound.Goals as goal

pub loop-shared-init : goal.loop-shared-init
loop-shared-init c = refl

pub loop-shared-preserved : goal.loop-shared-preserved
loop-shared-preserved c =
    let test = is_revealed c.len-blocks.result c.first-first.result in
    let here = ap test (sym c.row.ensures) ∙ sym c.is_revealed.ensures ∙ c.if-not-is_revealed.false in
    one_more test c.args.index.now.inscriptions c.as_slice-shared-items.result.now c.loop-shared.shared-index c.shared-item.result c.as_slice-shared-items.ensures c.loop-shared-test.true c.shared-item.is c.loop-shared.invariant here

pub returns-then-not-is_revealed : goal.returns-then-not-is_revealed
returns-then-not-is_revealed c =
    let test = is_revealed c.len-blocks.result c.first-first.result in
    let fails = ap test (sym c.row.ensures) ∙ sym c.is_revealed.ensures ∙ c.if-not-is_revealed.true in
    sym (one_fails test c.args.index.now.inscriptions c.as_slice-shared-items.result.now c.loop-shared.shared-index c.shared-item.result c.as_slice-shared-items.ensures c.loop-shared-test.true c.shared-item.is fails)
    ∙ inscriptions_are c.args.p.now (index_in c.args.index.now) c.len-blocks.result c.first-first.result c.len-blocks.ensures c.first-first.ensures.value

pub returns : goal.returns
returns c =
    let test = is_revealed c.len-blocks.result c.first-first.result in
    sym (no_more test c.args.index.now.inscriptions c.as_slice-shared-items.result.now c.loop-shared.shared-index c.as_slice-shared-items.ensures c.loop-shared-test.false c.loop-shared.invariant)
    ∙ inscriptions_are c.args.p.now (index_in c.args.index.now) c.len-blocks.result c.first-first.result c.len-blocks.ensures c.first-first.ensures.value
