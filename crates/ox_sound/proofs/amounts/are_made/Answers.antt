use Rattle.std.proofs.Common.{◌+◌, ◌∙◌, ap, get_or, refl, sym, take}
use Rattle.std.specs.Prelude.{◌==◌}
use Rattle.std.specs.List.{list_all}
use Rattle.std.proofs.lemmas.Bool.{and_from}
use Rattle.std.proofs.lemmas.List.{take_all}
use Rattle.std.proofs.lemmas.List.Folds.{list_all_at, list_all_more}
use Rattle.ox_etching.specs.declared.row.RuneRow.{RuneRow}
use Rattle.ox_ledger.specs.Balanced.{made_of}
use Rattle.ox_sound.specs.Rows.{is_bounded}
use Rattle.ox_sound.proofs.AmountLemmas.{no_rune}
use Rattle.ox_sound.proofs.DifferLemmas.{each_passes}
use Rattle.ox_sound.proofs.HeldLemmas.{made_test}
use Rattle.ox_sound.proofs.amounts.are_made.Goals as goal

pub loop-row-init : goal.loop-row-init
loop-row-init c = λ held differ are. refl

pub loop-row-preserved : goal.loop-row-preserved
loop-row-preserved c = λ held differ are.
    let test = λ (row : RuneRow). held row.id + row.burned == made_of row in
    let runes = c.args.runes.now in
    let i = c.loop-row.row-index in
    let here = made_test c.args.amounts.now runes held i no_rune c.is_made.result c.loop-row-test.true c.requires differ are c.is_made.ensures in
    list_all_more test runes i no_rune c.loop-row-test.true ∙ and_from (list_all test (take i runes)) (test (get_or runes i no_rune)) (c.loop-row.invariant held differ are) (sym here ∙ c.if-not-is_made.false)

pub is_made-requires : goal.is_made-requires
is_made-requires c = each_passes is_bounded c.args.runes.now no_rune c.requires c.loop-row.row-index c.loop-row-test.true

pub returns-then-not-is_made : goal.returns-then-not-is_made
returns-then-not-is_made c = λ held differ are.
    let test = λ (row : RuneRow). held row.id + row.burned == made_of row in
    let runes = c.args.runes.now in
    let i = c.loop-row.row-index in
    let here = made_test c.args.amounts.now runes held i no_rune c.is_made.result c.loop-row-test.true c.requires differ are c.is_made.ensures in
    sym (list_all_at test runes i no_rune c.loop-row-test.true (sym here ∙ c.if-not-is_made.true))

pub returns : goal.returns
returns c = λ held differ are.
    sym (c.loop-row.invariant held differ are) ∙ ap (list_all (λ (row : RuneRow). held row.id + row.burned == made_of row)) (take_all c.loop-row.row-index c.args.runes.now c.loop-row-test.false)
