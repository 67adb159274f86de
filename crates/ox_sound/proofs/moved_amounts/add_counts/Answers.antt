use Rattle.std.proofs.Common.{◌≡◌, ◌∙◌, ◌+◌, ℕ, List, [], ap, arith, get_or}
use Rattle.std.proofs.lemmas.List.{take_all}
use Rattle.ox_ledger.specs.declared.part.CountChange.{CountChange}
use Rattle.ox_sound.specs.Amounts.{amount_at}
use Rattle.ox_sound.specs.Keeps.{burned_more, minted_more, count_keeps, counted_of, sum_counted}
use Rattle.ox_sound.proofs.DifferLemmas.{each_passes}
use Rattle.ox_sound.proofs.SumLemmas.{counted_more, no_change}
use Rattle.ox_sound.proofs.moved_amounts.add_counts.Goals as goal

pub loop-change-init : goal.loop-change-init
loop-change-init c = record {
  coming = λ other. let none : amount_at c.args.coming.now other ≡ amount_at c.args.coming.now other + sum_counted burned_more c.args.runes.now [] other = omega arith in none;
  going = λ other. let none : amount_at c.args.going.now other ≡ amount_at c.args.going.now other + sum_counted minted_more c.args.runes.now [] other = omega arith in none;
}

pub loop-change-preserved : goal.loop-change-preserved
loop-change-preserved c =
    let one : CountChange = get_or c.args.counts.now c.loop-change.change-index no_change in record {
      coming = λ other.
          c.in_ok-add_count.ensures.coming c.if-not-branch.false other ∙ ap (λ (n : ℕ). n + counted_of burned_more c.args.runes.now other one) (c.loop-change.invariant.coming other)
          ∙ counted_more burned_more c.args.runes.now c.args.counts.now c.loop-change.change-index no_change other (amount_at c.args.coming.now other) c.loop-change-test.true;
      going = λ other.
          c.in_ok-add_count.ensures.going c.if-not-branch.false other ∙ ap (λ (n : ℕ). n + counted_of minted_more c.args.runes.now other one) (c.loop-change.invariant.going other)
          ∙ counted_more minted_more c.args.runes.now c.args.counts.now c.loop-change.change-index no_change other (amount_at c.args.going.now other) c.loop-change-test.true;
    }

pub add_count-requires : goal.add_count-requires
add_count-requires c = each_passes (count_keeps c.args.runes.now) c.args.counts.now no_change c.requires c.loop-change.change-index c.loop-change-test.true

pub returns : goal.returns
returns c = record {
  coming = λ yes other.
      c.loop-change.invariant.coming other ∙ ap (λ (counts : List CountChange). amount_at c.args.coming.now other + sum_counted burned_more c.args.runes.now counts other) (take_all c.loop-change.change-index c.args.counts.now c.loop-change-test.false);
  going = λ yes other.
      c.loop-change.invariant.going other ∙ ap (λ (counts : List CountChange). amount_at c.args.going.now other + sum_counted minted_more c.args.runes.now counts other) (take_all c.loop-change.change-index c.args.counts.now c.loop-change-test.false);
}
