use Rattle.std.proofs.Common.{◌∙◌, ◌<◌, ap, arith, get_or, refl, sym, take}
use Rattle.std.specs.Prelude.{nat_lt}
use Rattle.std.specs.List.{list_all}
use Rattle.std.proofs.lemmas.Bool.{and_from, lt-ltb}
use Rattle.std.proofs.lemmas.List.{take_all}
use Rattle.std.proofs.lemmas.List.Folds.{list_all_more}
use Rattle.ox_sound.specs.Amounts.{is_among}
use Rattle.ox_sound.specs.Rows.{is_amount}
use Rattle.ox_sound.proofs.AmountLemmas.{no_balance}
use Rattle.ox_sound.proofs.held.are_there.Goals as goal

pub loop-id-init : goal.loop-id-init
loop-id-init c = refl

pub loop-id-preserved : goal.loop-id-preserved
loop-id-preserved c =
    let test = is_amount (is_among c.args.amounts.now) in
    let balances = c.args.balances.now in
    let i = c.loop-id.id-index in
    let one = get_or c.args.balances.now c.loop-id.id-index no_balance in
    let some : 0 < (get_or c.args.balances.now c.loop-id.id-index no_balance).1 = omega (arith, c.if-amount-eq0.false) in
    list_all_more test balances i no_balance c.loop-id-test.true
    ∙ and_from (list_all test (take i balances)) (test one) c.loop-id.invariant
    (and_from (nat_lt 0 one.1) (is_among c.args.amounts.now one.0) (lt-ltb 0 one.1 some) (sym c.contains_key.ensures ∙ c.if-not-contains_key.false))

pub returns : goal.returns
returns c = sym c.loop-id.invariant ∙ ap (list_all (is_amount (is_among c.args.amounts.now))) (take_all c.loop-id.id-index c.args.balances.now c.loop-id-test.false)
