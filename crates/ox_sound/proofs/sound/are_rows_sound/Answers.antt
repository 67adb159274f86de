use Rattle.std.proofs.Common.{◌∙◌, refl, sym}
use Rattle.std.proofs.lemmas.List.Folds.{list_all_at}
use Rattle.ox_sound.specs.Sound.{is_etched}
use Rattle.ox_sound.proofs.AmountLemmas.{no_rune}
use Rattle.ox_sound.proofs.PassLemmas.{more_pass, no_more}
use Rattle.ox_sound.proofs.sound.are_rows_sound.Goals as goal

pub loop-row-init : goal.loop-row-init
loop-row-init c = refl

pub loop-row-preserved : goal.loop-row-preserved
loop-row-preserved c =
    more_pass (is_etched c.args.p.now c.args.blocks) c.args.runes.now c.loop-row.row-index no_rune c.loop-row-test.true c.loop-row.invariant (sym c.is_etched.ensures ∙ c.if-not-is_etched.false)

pub returns-then-not-is_etched : goal.returns-then-not-is_etched
returns-then-not-is_etched c =
    sym (list_all_at (is_etched c.args.p.now c.args.blocks) c.args.runes.now c.loop-row.row-index no_rune c.loop-row-test.true (sym c.is_etched.ensures ∙ c.if-not-is_etched.true))

pub returns : goal.returns
returns c = sym (no_more (is_etched c.args.p.now c.args.blocks) c.args.runes.now c.args.runes.now c.loop-row.row-index refl c.loop-row-test.false c.loop-row.invariant)
