use Rattle.std.proofs.Common.{◌<◌, arith, get_or, refl, Bool}
use Rattle.std.specs.Prelude.{◌||◌, is_some, nat_lt}
use Rattle.std.proofs.lemmas.Bool.{and_from, lt-ltb}
use Rattle.ox_runestone.specs.declared.stone.RuneId.{RuneId}
use Rattle.ox_ledger.specs.Runes.{by_id}
use Rattle.ox_sound.specs.Rows.{is_amount}
use Rattle.ox_sound.proofs.AmountLemmas.{no_balance}
use Rattle.ox_sound.proofs.PassLemmas.{more_pass, no_more}
use Rattle.ox_sound.proofs.new_runes.are_found.Goals as goal

pub loop-id-init : goal.loop-id-init
loop-id-init c = refl

pub loop-id-preserved : goal.loop-id-preserved
loop-id-preserved c =
    let known : RuneId → Bool = λ (id : RuneId). is_some (by_id c.args.runes.now id) || is_some (by_id c.args.appended.now id) in
    let one = get_or c.args.balances.now c.loop-id.id-index no_balance in
    let some : 0 < (get_or c.args.balances.now c.loop-id.id-index no_balance).1 = omega (arith, c.if-amount-eq0.false) in
    more_pass (is_amount known) c.args.balances.now c.loop-id.id-index no_balance c.loop-id-test.true c.loop-id.invariant
    (and_from (nat_lt 0 one.1) (known one.0) (lt-ltb 0 one.1 some) (c.is_known.ensures c.if-not-is_known.false))

pub returns : goal.returns
returns c = λ yes.
    no_more (is_amount (λ (id : RuneId). is_some (by_id c.args.runes.now id) || is_some (by_id c.args.appended.now id))) c.args.balances.now c.args.balances.now c.loop-id.id-index refl c.loop-id-test.false c.loop-id.invariant
