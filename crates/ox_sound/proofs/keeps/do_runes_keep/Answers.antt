use Rattle.ox_plain.specs.Plain.{index_in}
use Rattle.ox_sound.specs.Keeps.{KeepsAmounts, KeepsRunes}
use Rattle.std.proofs.Common.{◌∙◌, sym}
use Rattle.ox_sound.proofs.KeepsPassLemmas.{answer_weaker, new_bounded, runes_keep}
use Rattle.ox_sound.proofs.keeps.do_runes_keep.Goals as goal

pub returns : goal.returns
returns c =
    answer_weaker c.do_amounts_keep.result (KeepsAmounts c.as_slice-runes.result.now c.args.change.now.runes) (KeepsRunes c.args.p.now (index_in c.args.before.now) c.args.change.now)
    (runes_keep c.args.p.now (index_in c.args.before.now) c.args.change.now c.as_slice-runes.result.now c.as_slice-appended.result.now c.as_slice.result.now c.as_slice-2.result.now c.len.result
    c.as_slice-runes.ensures c.as_slice-appended.ensures c.as_slice.ensures c.as_slice-2.ensures c.len.ensures (sym c.do_counts_keep.ensures ∙ c.if-not-do_counts_keep.false)
    (c.do_balances_keep.ensures c.if-not-do_balances_keep.false) (c.in_ok-do_new_runes_keep.ensures c.if-not-branch.false)) c.do_amounts_keep.ensures

pub do_amounts_keep-requires-clause-bounded : goal.do_amounts_keep-requires-clause-bounded
do_amounts_keep-requires-clause-bounded c =
    new_bounded c.args.p.now c.len.result c.as_slice-runes.result.now c.as_slice-appended.result.now c.args.change.now.runes.appended c.as_slice-appended.ensures (c.in_ok-do_new_runes_keep.ensures c.if-not-branch.false)
