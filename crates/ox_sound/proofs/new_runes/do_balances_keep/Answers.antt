use Rattle.std.proofs.Common.{◌∙◌, Bool, ap, refl, sym}
use Rattle.std.specs.Prelude.{◌||◌, is_some}
use Rattle.ox_runestone.specs.declared.stone.RuneId.{RuneId}
use Rattle.ox_ledger.specs.Runes.{Placement, by_id}
use Rattle.ox_sound.specs.Rows.{are_amounts}
use Rattle.ox_sound.proofs.PassLemmas.{no_more, one_more}
use Rattle.ox_sound.proofs.new_runes.do_balances_keep.Goals as goal

pub loop-balances-init : goal.loop-balances-init
loop-balances-init c = refl

pub loop-balances-preserved : goal.loop-balances-preserved
loop-balances-preserved c =
    let known : RuneId → Bool = λ (id : RuneId). is_some (by_id c.args.runes.now id) || is_some (by_id c.args.appended.now id) in
    one_more (λ (row : Placement). are_amounts known row.1) c.args.came.now c.args.came.now c.loop-balances.balances-index c.loop-balances-item.result refl c.loop-balances-test.true c.loop-balances-item.is c.loop-balances.invariant
    (ap (are_amounts known) (sym c.as_slice.ensures) ∙ c.are_balances.ensures c.if-not-are_balances.false)

pub returns : goal.returns
returns c = λ yes.
    no_more (λ (row : Placement). are_amounts (λ (id : RuneId). is_some (by_id c.args.runes.now id) || is_some (by_id c.args.appended.now id)) row.1) c.args.came.now c.args.came.now c.loop-balances.balances-index refl
    c.loop-balances-test.false c.loop-balances.invariant
