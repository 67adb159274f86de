-- Satoshis between two numbers, and outputs that hold such, after one came or went.
use Rattle.std.proofs.Common.{◌≡◌, ◌∙◌, ◌≤◌, ◌<◌, ◌+◌, ℕ, Bool, true, false, cond, List, [], ◌++◌, inl, inr, sym, ap, subst, arith, Option, Some, None, nat_lt, length, length-append}
use Rattle.std.specs.Prelude.{if◌then◌else◌, ◌⊎◌, OnOk, Result, Ok, Err}
use Rattle.std.specs.Ordering.{eq_by_cmp}
use Rattle.std.specs.FinMap.{empty, get, insert, get-empty, get-insert}
use Rattle.std.proofs.lemmas.Bool.{cases_lt}
use Rattle.std.proofs.lemmas.Bool.Decides.{nat_tests}
use Rattle.ox_block.specs.declared.block.OutPoint.{OutPoint}
use Rattle.ox_range.specs.Numbers.{numbers_from}
use Rattle.ox_range.proofs.RunLemmas.{length-numbers_from}
use Rattle.ox_rules.specs.declared.rows.OutRow.{OutRow}
use Rattle.ox_rules.specs.Outputs.{Outputs, MayStand, outpoint_cmp, times}
use Rattle.ox_rules.proofs.Conservation.{times-append}
use Rattle.ox_rules.proofs.Orders.{outpoints_total}
use Rattle.ox_rules.proofs.Transfers.{counts_numbers}
use Rattle.ox_part_tests.specs.Rising.{AreWithin, HoldBelow}

pub none_hold_any : (outs : Outputs) (end : ℕ) → outs ≡ empty → HoldBelow end outs
none_hold_any outs end is at row found = absurd (by_none (sym (get-empty outpoint_cmp at) ∙ ap (λ (o : Outputs). get o at) (sym is) ∙ found)) where
  by_none : ◌≡◌ {A = Option OutRow} None (Some row) → ⊥
  by_none e = absurd (cc e)

pub numbers_count : (first count : ℕ) → length (numbers_from first count) ≡ count
numbers_count first count = length-numbers_from first count

counted_once : (n first end sat : ℕ) → n + (if nat_lt sat first then 1 else 0) ≡ (if nat_lt sat end then 1 else 0) → n ≤ 1
counted_once n first end sat is = grind (arith, nat_tests)

none_before : (n first end sat : ℕ) → n + (if nat_lt sat first then 1 else 0) ≡ (if nat_lt sat end then 1 else 0) → sat < first → n ≡ 0
none_before n first end sat is below = grind (arith, nat_tests)

none_behind : (n first end sat : ℕ) → n + (if nat_lt sat first then 1 else 0) ≡ (if nat_lt sat end then 1 else 0) → end ≤ sat → n ≡ 0
none_behind n first end sat is behind = grind (arith, nat_tests)

pub numbers_within : (first count : ℕ) → AreWithin first (first + count) (numbers_from first count)
numbers_within first count = record {
  once = λ sat. counted_once (times sat (numbers_from first count)) first (first + count) sat (counts_numbers sat first count);
  from = λ sat below. none_before (times sat (numbers_from first count)) first (first + count) sat (counts_numbers sat first count) below;
  below = λ sat behind. none_behind (times sat (numbers_from first count)) first (first + count) sat (counts_numbers sat first count) behind;
}

sum_once : (a b sat middle : ℕ) → a ≤ 1 → b ≤ 1 → (middle ≤ sat → a ≡ 0) → (sat < middle → b ≡ 0) → a + b ≤ 1
sum_once a b sat middle one other before behind = by_test (cases_lt sat middle) where
  by_test : (sat < middle) ⊎ (middle ≤ sat) → a + b ≤ 1
  by_test (inl less) = omega (arith, one, behind less)
  by_test (inr more) = omega (arith, other, before more)

pub joined : (low middle start end after : ℕ) (a b all : List ℕ) → all ≡ a ++ b → AreWithin low middle a → AreWithin start end b → low ≤ start → middle ≤ start → start ≤ end → end ≤ after → AreWithin low after all
joined low middle start end after a b all is first second up apart on past = subst (AreWithin low after) (sym is) (record {
  once = λ sat. omega (arith, times-append sat a b, sum_once (times sat a) (times sat b) sat middle (first.once sat) (second.once sat) (first.below sat) (λ less. second.from sat (omega (arith, less, apart))));
  from = λ sat below. omega (arith, times-append sat a b, first.from sat below, second.from sat (omega (arith, below, up)));
  below = λ sat behind. omega (arith, times-append sat a b, first.below sat (omega (arith, behind, apart, on, past)), second.below sat (omega (arith, behind, past)));
})

pub joined_lower : (start end middle after : ℕ) (a b all : List ℕ) → all ≡ a ++ b → AreWithin middle after a → AreWithin start end b → end ≤ middle → start ≤ middle → end ≤ after → AreWithin start after all
joined_lower start end middle after a b all is first second apart up past = subst (AreWithin start after) (sym is) (record {
  once = λ sat. omega (arith, times-append sat a b, sum_once (times sat b) (times sat a) sat middle (second.once sat) (first.once sat) (λ more. second.below sat (omega (arith, more, apart))) (first.from sat));
  from = λ sat below. omega (arith, times-append sat a b, first.from sat (omega (arith, below, up)), second.from sat below);
  below = λ sat behind. omega (arith, times-append sat a b, first.below sat behind, second.below sat (omega (arith, behind, past)));
})

-- what holds where a result is a value, once it is one
pub on_value : {T E P : Type 0} (r : Result T E) (x : T) → r ≡ Ok x → OnOk r P → P
on_value (Ok y) x is ok = ok
on_value (Err e) x is ok = absurd (cc is)

pub joined_count : (a b all : List ℕ) → all ≡ a ++ b → length all ≡ length a + length b
joined_count a b all is = ap (λ (l : List ℕ). length l) is ∙ length-append a b

pub none_within : (low end : ℕ) (sats : List ℕ) → sats ≡ [] → AreWithin low end sats
none_within low end sats none = record {
  once = λ sat. omega (arith, no_times sats sat none);
  from = λ sat below. no_times sats sat none;
  below = λ sat behind. no_times sats sat none;
} where
  no_times : (list : List ℕ) (sat : ℕ) → list ≡ [] → times sat list ≡ 0
  no_times list sat is = ap (times sat) is

pub may_stand : (outs : Outputs) (at : OutPoint) (sats : List ℕ) (low end to : ℕ) → AreWithin low end sats → HoldBelow to outs → to ≤ low → MayStand at sats outs
may_stand outs at sats low end to within held up = record {
  once = within.once;
  apart = λ other row sat differs found. let there = held other row found in
      omega (arith, sum_once (times sat row.sats) (times sat sats) sat low (there.once sat) (within.once sat) (λ past. there.below sat (omega (arith, past, up))) (within.from sat));
}

-- satoshis below a number are below a greater one
further : (a b : ℕ) (low : ℕ) (sats : List ℕ) → a ≤ b → AreWithin low a sats → AreWithin 0 b sats
further a b low sats up within = record {
  once = within.once;
  from = λ sat below. absurd (omega (arith, below));
  below = λ sat behind. within.below sat (omega (arith, up, behind));
}

pub hold_further : (outs : Outputs) (a b : ℕ) → a ≤ b → HoldBelow a outs → HoldBelow b outs
hold_further outs a b up h at row found = further a b 0 row.sats up (h at row found)

pub placed_below : (outs new : Outputs) (at : OutPoint) (row : OutRow) (low end after : ℕ) → new ≡ insert outs at row → AreWithin low end row.sats → low ≤ end → end ≤ after → HoldBelow low outs → HoldBelow after new
placed_below outs new at row low end after is within up further_up h q r found =
    by_test (eq_by_cmp outpoint_cmp q at) (sym (ap (λ (o : Outputs). get o q) is ∙ get-insert outpoints_total outs at row q) ∙ found) where
      by_test : (b : Bool) → cond b (Some row) (get outs q) ≡ Some r → AreWithin 0 after r.sats
      by_test true same = let e : row ≡ r = cc same in subst (λ (x : OutRow). AreWithin 0 after x.sats) e (further end after low row.sats further_up within)
      by_test false other = further low after 0 r.sats (omega (arith, up, further_up)) (h q r other)
