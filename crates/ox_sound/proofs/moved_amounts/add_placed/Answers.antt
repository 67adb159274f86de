use Rattle.std.proofs.Common.{◌≡◌, ◌∙◌, ◌+◌, ℕ, List, [], ap, arith, take}
use Rattle.std.proofs.lemmas.List.{take_all}
use Rattle.ox_allocation.specs.Balances.{Balance}
use Rattle.ox_ledger.specs.Runes.{Placement}
use Rattle.ox_sound.specs.Amounts.{amount_at, sum_of}
use Rattle.ox_sound.specs.Keeps.{amount_placed}
use Rattle.ox_sound.proofs.SumLemmas.{placed_more}
use Rattle.ox_sound.proofs.moved_amounts.add_placed.Goals as goal

pub loop-balances-init : goal.loop-balances-init
loop-balances-init c = λ other. let none : amount_at c.args.sums.now other ≡ amount_at c.args.sums.now other + amount_placed [] other = omega arith in none

pub loop-balances-preserved : goal.loop-balances-preserved
loop-balances-preserved c = λ other.
    c.in_ok-add_balances.ensures c.if-not-branch.false other ∙ ap (λ (n : ℕ). n + sum_of c.as_slice.result.now other) (c.loop-balances.invariant other)
    ∙ ap (λ (balances : List Balance). amount_at c.args.sums.now other + amount_placed (take c.loop-balances.balances-index c.args.rows.now) other + sum_of balances other) c.as_slice.ensures
    ∙ placed_more c.args.rows.now c.loop-balances.balances-index c.loop-balances-item.result other (amount_at c.args.sums.now other) c.loop-balances-test.true c.loop-balances-item.is

pub returns : goal.returns
returns c = λ yes other.
    c.loop-balances.invariant other ∙ ap (λ (rows : List Placement). amount_at c.args.sums.now other + amount_placed rows other) (take_all c.loop-balances.balances-index c.args.rows.now c.loop-balances-test.false)
