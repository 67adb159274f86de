use Rattle.std.proofs.Common.{◌∙◌, Bool, ap, not, refl, sym}
use Rattle.std.specs.BTreeSet.{contains}
use Rattle.std.specs.Ordering.{nat_cmp}
use Rattle.std.proofs.lemmas.List.Folds.{list_all_at}
use Rattle.ox_etching.specs.declared.row.RuneRow.{RuneRow}
use Rattle.ox_sound.proofs.AmountLemmas.{no_rune}
use Rattle.ox_sound.proofs.PassLemmas.{more_pass, no_more}
use Rattle.ox_sound.proofs.new_runes.are_named_apart.Goals as goal

pub loop-row-init : goal.loop-row-init
loop-row-init c = refl

pub loop-row-preserved : goal.loop-row-preserved
loop-row-preserved c =
    more_pass (λ (row : RuneRow). not (contains nat_cmp c.args.names.now row.name)) c.args.runes.now c.loop-row.row-index no_rune c.loop-row-test.true c.loop-row.invariant
    (ap (λ (b : Bool). not b) (sym c.contains.ensures ∙ c.if-contains.false))

pub returns-then-contains : goal.returns-then-contains
returns-then-contains c =
    sym (list_all_at (λ (row : RuneRow). not (contains nat_cmp c.args.names.now row.name)) c.args.runes.now c.loop-row.row-index no_rune c.loop-row-test.true
    (ap (λ (b : Bool). not b) (sym c.contains.ensures ∙ c.if-contains.true)))

pub returns : goal.returns
returns c =
    sym (no_more (λ (row : RuneRow). not (contains nat_cmp c.args.names.now row.name)) c.args.runes.now c.args.runes.now c.loop-row.row-index refl c.loop-row-test.false c.loop-row.invariant)
