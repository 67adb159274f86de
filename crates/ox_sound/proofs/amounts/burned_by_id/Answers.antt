use Rattle.std.proofs.Common.{◌≡◌, ◌∙◌, ◌+◌, ℕ, List, Option, ap, arith, get_or, refl, subst, sym}
use Rattle.std.specs.BTreeMap.{is_at}
use Rattle.std.specs.Map.{lookup}
use Rattle.std.proofs.lemmas.List.{take_all}
use Rattle.ox_runestone.specs.declared.stone.RuneId.{RuneId}
use Rattle.ox_allocation.specs.Balances.{id_cmp}
use Rattle.ox_etching.specs.declared.row.RuneRow.{RuneRow}
use Rattle.ox_sound.specs.Amounts.{AreAmounts, as_amount, burned_in}
use Rattle.ox_sound.specs.Rows.{ids_differ}
use Rattle.ox_sound.proofs.AmountLemmas.{id_burned, id_met, id_new, no_rune, nothing_burned}
use Rattle.ox_sound.proofs.amounts.burned_by_id.Goals as goal

pub loop-row-init : goal.loop-row-init
unfolding ids_differ
loop-row-init c = record {
  differ = refl;
  burned = nothing_burned c.new-amounts.result (λ id. ap (λ (es : List (RuneId × Option ℕ)). lookup (is_at (id_cmp id)) es) c.new-amounts.ensures.empty);
}

pub loop-row-preserved : goal.loop-row-preserved
loop-row-preserved c =
    let runes = c.args.runes.now in
    let i = c.loop-row.row-index in
    let zero_more : 0 + (get_or c.args.runes.now c.loop-row.row-index no_rune).burned ≡ (get_or c.args.runes.now c.loop-row.row-index no_rune).burned = omega arith in
    let begins = c.more.ensures 0 refl ∙ ap as_amount zero_more in
    let none = sym c.is_some.ensures ∙ c.if-is_some.false in
    record {
      differ = id_new runes i no_rune c.loop-row.amounts c.in_ok-insert.field-0 c.loop-row-test.true c.loop-row.invariant.burned c.in_ok-insert.ensures.old none c.loop-row.invariant.differ;
      burned = id_burned runes i no_rune c.more.result c.loop-row.amounts c.insert.new.self c.in_ok-insert.field-0 c.loop-row-test.true c.loop-row.invariant.burned c.in_ok-insert.ensures.old none begins c.in_ok-insert.ensures.updates.0;
    }

pub returns-then-is_some-clause-differ : goal.returns-then-is_some-clause-differ
returns-then-is_some-clause-differ c =
    sym (id_met c.args.runes.now c.loop-row.row-index no_rune c.loop-row.amounts c.in_ok-insert.field-0 c.loop-row-test.true c.loop-row.invariant.burned c.in_ok-insert.ensures.old (sym c.is_some.ensures ∙ c.if-is_some.true))

pub returns-clause-differ : goal.returns-clause-differ
returns-clause-differ c = sym c.loop-row.invariant.differ ∙ ap ids_differ (take_all c.loop-row.row-index c.args.runes.now c.loop-row-test.false)

pub returns-clause-burned : goal.returns-clause-burned
returns-clause-burned c =
    subst (λ (runes : List RuneRow). AreAmounts c.loop-row.amounts (burned_in runes) (λ id. 0)) (take_all c.loop-row.row-index c.args.runes.now c.loop-row-test.false) c.loop-row.invariant.burned
