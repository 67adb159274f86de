use Rattle.std.proofs.Common.{◌∙◌, ℕ, List, ap, refl, sym}
use Rattle.std.specs.BTreeSet.{contains}
use Rattle.std.specs.Ordering.{nat_cmp}
use Rattle.std.proofs.lemmas.List.{take_all}
use Rattle.ox_sound.specs.Rows.{names_differ}
use Rattle.ox_sound.proofs.AmountLemmas.{no_rune}
use Rattle.ox_sound.proofs.DifferLemmas.{name_met, name_new, names_met}
use Rattle.ox_sound.proofs.rows.do_names_differ.Goals as goal

pub loop-row-init : goal.loop-row-init
unfolding names_differ
loop-row-init c = record {
  differ = refl;
  met = λ name. ap (λ (keys : List ℕ). contains nat_cmp (record { keys = keys }) name) c.new-met.ensures.empty;
}

pub loop-row-preserved : goal.loop-row-preserved
loop-row-preserved c =
    let runes = c.args.runes.now in
    let i = c.loop-row.row-index in
    record {
      differ = name_new runes i no_rune (contains nat_cmp c.loop-row.met) c.in_ok-insert.field-0 c.loop-row-test.true c.loop-row.invariant.met c.in_ok-insert.ensures.added c.if-not-branch.false c.loop-row.invariant.differ;
      met = names_met runes i no_rune (contains nat_cmp c.loop-row.met) (contains nat_cmp c.insert.new.self) c.loop-row-test.true c.loop-row.invariant.met c.in_ok-insert.ensures.updates.0;
    }

pub returns-then-not-branch : goal.returns-then-not-branch
returns-then-not-branch c =
    sym (name_met c.args.runes.now c.loop-row.row-index no_rune (contains nat_cmp c.loop-row.met) c.in_ok-insert.field-0 c.loop-row-test.true c.loop-row.invariant.met c.in_ok-insert.ensures.added c.if-not-branch.true)

pub returns : goal.returns
returns c = sym c.loop-row.invariant.differ ∙ ap names_differ (take_all c.loop-row.row-index c.args.runes.now c.loop-row-test.false)
