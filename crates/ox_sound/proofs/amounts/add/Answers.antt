use Rattle.std.proofs.Common.{◌+◌, List, [], ap, arith, get_or, take}
use Rattle.std.specs.Prelude.{if◌then◌else◌}
use Rattle.std.proofs.lemmas.List.{take_all}
use Rattle.ox_allocation.specs.Balances.{Balance, is_same}
use Rattle.ox_sound.specs.Amounts.{sum_of}
use Rattle.ox_sound.proofs.AmountLemmas.{no_balance, same_held, sum_more}
use Rattle.ox_sound.proofs.amounts.add.Goals as goal

pub loop-id-init : goal.loop-id-init
loop-id-init c = λ there held are. same_held c.args.amounts.now there held (λ id. held id + sum_of [] id) (λ id. omega arith) are

pub loop-id-preserved : goal.loop-id-preserved
loop-id-preserved c = λ there held are.
    let balances = c.args.balances.now in
    let i = c.loop-id.id-index in
    let one : Balance = get_or c.args.balances.now c.loop-id.id-index no_balance in
    same_held c.add_one.new.amounts there (λ id. held id + sum_of (take i balances) id + (if is_same one.0 id then one.1 else 0)) (λ id. held id + sum_of (take (i + 1) balances) id)
    (λ id. sum_more balances i no_balance id (held id) c.loop-id-test.true) (c.add_one.ensures there (λ id. held id + sum_of (take i balances) id) (c.loop-id.invariant there held are))

pub returns : goal.returns
returns c = λ there held are.
    same_held c.loop-id.amounts there (λ id. held id + sum_of (take c.loop-id.id-index c.args.balances.now) id) (λ id. held id + sum_of c.args.balances.now id)
    (λ id. ap (λ (balances : List Balance). held id + sum_of balances id) (take_all c.loop-id.id-index c.args.balances.now c.loop-id-test.false)) (c.loop-id.invariant there held are)
