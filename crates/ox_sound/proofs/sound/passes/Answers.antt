use Rattle.std.proofs.Common.{sym}
use Rattle.ox_plain.specs.Plain.{index_in}
use Rattle.ox_sound.specs.Sound.{runes_pass, sound}
use Rattle.ox_sound.proofs.PassLemmas.{chain_fails, runes_left, same_answer, sats_fail}
use Rattle.ox_sound.proofs.sound.passes.Goals as goal

pub returns-then-not-are_rows_of_chain : goal.returns-then-not-are_rows_of_chain
returns-then-not-are_rows_of_chain c = sym (chain_fails c.args.p.now (index_in c.args.index.now) c.are_rows_of_chain.result c.are_rows_of_chain.ensures c.if-not-are_rows_of_chain.true)

pub returns-then-not-branch : goal.returns-then-not-branch
returns-then-not-branch c = sym (sats_fail c.args.p.now (index_in c.args.index.now) c.in_ok-are_sats_sound.field-0 c.in_ok-are_sats_sound.ensures c.if-not-branch.true)

pub returns : goal.returns
returns c =
    let index = index_in c.args.index.now in
    same_answer c.are_runes_sound.result (runes_pass c.args.p.now index) (sound c.args.p.now index)
    (runes_left c.args.p.now index c.are_rows_of_chain.result c.in_ok-are_sats_sound.field-0 c.are_rows_of_chain.ensures c.if-not-are_rows_of_chain.false c.in_ok-are_sats_sound.ensures c.if-not-branch.false) c.are_runes_sound.ensures
