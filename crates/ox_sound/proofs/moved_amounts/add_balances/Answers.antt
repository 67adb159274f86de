use Rattle.std.proofs.Common.{◌≡◌, ◌∙◌, ◌+◌, ℕ, List, [], ap, arith, get_or}
use Rattle.std.specs.Prelude.{if◌then◌else◌}
use Rattle.std.proofs.lemmas.List.{take_all}
use Rattle.ox_allocation.specs.Balances.{Balance, is_same}
use Rattle.ox_sound.specs.Amounts.{amount_at, sum_of}
use Rattle.ox_sound.proofs.AmountLemmas.{no_balance, sum_more}
use Rattle.ox_sound.proofs.moved_amounts.add_balances.Goals as goal

pub loop-id-init : goal.loop-id-init
loop-id-init c = λ other. let none : amount_at c.args.sums.now other ≡ amount_at c.args.sums.now other + sum_of [] other = omega arith in none

pub loop-id-preserved : goal.loop-id-preserved
loop-id-preserved c = λ other.
    let one : Balance = get_or c.args.balances.now c.loop-id.id-index no_balance in
    c.in_ok-add_one.ensures c.if-not-branch.false other ∙ ap (λ (n : ℕ). n + (if is_same one.0 other then one.1 else 0)) (c.loop-id.invariant other)
    ∙ sum_more c.args.balances.now c.loop-id.id-index no_balance other (amount_at c.args.sums.now other) c.loop-id-test.true

pub returns : goal.returns
returns c = λ yes other.
    c.loop-id.invariant other ∙ ap (λ (balances : List Balance). amount_at c.args.sums.now other + sum_of balances other) (take_all c.loop-id.id-index c.args.balances.now c.loop-id-test.false)
