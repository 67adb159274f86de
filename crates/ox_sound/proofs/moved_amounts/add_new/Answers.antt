use Rattle.std.proofs.Common.{◌≡◌, ◌∙◌, ◌+◌, ℕ, List, [], ap, arith, get_or, take}
use Rattle.std.specs.Prelude.{if◌then◌else◌}
use Rattle.std.proofs.lemmas.List.{take_all}
use Rattle.ox_allocation.specs.Balances.{is_same}
use Rattle.ox_etching.specs.declared.row.RuneRow.{RuneRow}
use Rattle.ox_ledger.specs.Balanced.{made_of}
use Rattle.ox_sound.specs.Amounts.{amount_at}
use Rattle.ox_sound.specs.Keeps.{sum_new}
use Rattle.ox_sound.proofs.AmountLemmas.{no_rune}
use Rattle.ox_sound.specs.Rows.{is_bounded}
use Rattle.ox_sound.proofs.DifferLemmas.{each_passes}
use Rattle.ox_sound.proofs.SumLemmas.{new_more}
use Rattle.ox_sound.proofs.moved_amounts.add_new.Goals as goal

pub loop-row-init : goal.loop-row-init
loop-row-init c = record {
  coming = λ other. let none : amount_at c.args.coming.now other ≡ amount_at c.args.coming.now other + sum_new (λ (row : RuneRow). row.burned) [] other = omega arith in none;
  going = λ other. let none : amount_at c.args.going.now other ≡ amount_at c.args.going.now other + sum_new made_of [] other = omega arith in none;
}

pub loop-row-preserved : goal.loop-row-preserved
loop-row-preserved c =
    let one : RuneRow = get_or c.args.appended.now c.loop-row.row-index no_rune in record {
      coming = λ other.
          c.in_ok-add_both.ensures.coming c.if-not-branch.false other ∙ ap (λ (n : ℕ). n + (if is_same one.id other then one.burned else 0)) (c.loop-row.invariant.coming other)
          ∙ new_more (λ (row : RuneRow). row.burned) c.args.appended.now c.loop-row.row-index no_rune other (amount_at c.args.coming.now other) c.loop-row-test.true;
      going = λ other.
          c.in_ok-add_both.ensures.going c.if-not-branch.false other ∙ ap (λ (n : ℕ). n + (if is_same one.id other then c.made_of.result else 0)) (c.loop-row.invariant.going other)
          ∙ ap (λ (m : ℕ). amount_at c.args.going.now other + sum_new made_of (take c.loop-row.row-index c.args.appended.now) other + (if is_same one.id other then m else 0)) c.made_of.ensures
          ∙ new_more made_of c.args.appended.now c.loop-row.row-index no_rune other (amount_at c.args.going.now other) c.loop-row-test.true;
    }

pub returns : goal.returns
returns c = record {
  coming = λ yes other.
      c.loop-row.invariant.coming other ∙ ap (λ (rows : List RuneRow). amount_at c.args.coming.now other + sum_new (λ (row : RuneRow). row.burned) rows other) (take_all c.loop-row.row-index c.args.appended.now c.loop-row-test.false);
  going = λ yes other.
      c.loop-row.invariant.going other ∙ ap (λ (rows : List RuneRow). amount_at c.args.going.now other + sum_new made_of rows other) (take_all c.loop-row.row-index c.args.appended.now c.loop-row-test.false);
}

pub made_of-requires : goal.made_of-requires
made_of-requires c = each_passes is_bounded c.args.appended.now no_rune c.requires c.loop-row.row-index c.loop-row-test.true
