-- Outputs that hold no satoshis, after one came or went.
use Rattle.std.proofs.Common.{◌≡◌, ◌∙◌, ℕ, Bool, true, false, cond, List, [], sym, ap, arith, Option, Some, None}
use Rattle.std.specs.Ordering.{eq_by_cmp}
use Rattle.std.specs.FinMap.{empty, get, insert, remove, get-empty, get-insert, get-remove}
use Rattle.ox_block.specs.declared.block.OutPoint.{OutPoint}
use Rattle.ox_rules.specs.declared.rows.OutRow.{OutRow}
use Rattle.ox_rules.specs.Outputs.{Outputs, MayStand, outpoint_cmp, times}
use Rattle.ox_rules.proofs.Orders.{outpoints_total}
use Rattle.ox_part_tests.specs.Empty.{HoldNothing}

pub none_hold : (outs : Outputs) → outs ≡ empty → HoldNothing outs
none_hold outs is at row found = absurd (by_none (sym (get-empty outpoint_cmp at) ∙ ap (λ (o : Outputs). get o at) (sym is) ∙ found)) where
  by_none : ◌≡◌ {A = Option OutRow} None (Some row) → ⊥
  by_none e = absurd (cc e)

pub insert_holds : (outs new : Outputs) (at : OutPoint) (row : OutRow) → new ≡ insert outs at row → row.sats ≡ [] → HoldNothing outs → HoldNothing new
insert_holds outs new at row is none h q r found =
    by_test (eq_by_cmp outpoint_cmp q at) (sym (ap (λ (o : Outputs). get o q) is ∙ get-insert outpoints_total outs at row q) ∙ found) where
      by_test : (b : Bool) → cond b (Some row) (get outs q) ≡ Some r → r.sats ≡ []
      by_test true same = let e : row ≡ r = cc same in ap (λ (x : OutRow). x.sats) (sym e) ∙ none
      by_test false other = h q r other

pub remove_holds : (outs new : Outputs) (at : OutPoint) → new ≡ remove outs at → HoldNothing outs → HoldNothing new
remove_holds outs new at is h q r found =
    by_test (eq_by_cmp outpoint_cmp q at) (sym (ap (λ (o : Outputs). get o q) is ∙ get-remove outpoints_total outs at q) ∙ found) where
      by_test : (b : Bool) → cond b None (get outs q) ≡ Some r → r.sats ≡ []
      by_test true same = absurd (cc same)
      by_test false other = h q r other

no_times : (sats : List ℕ) (sat : ℕ) → sats ≡ [] → times sat sats ≡ 0
no_times sats sat none = ap (times sat) none

pub may_stand : (outs : Outputs) (at : OutPoint) (sats : List ℕ) → sats ≡ [] → HoldNothing outs → MayStand at sats outs
may_stand outs at sats none h = record {
  once = λ sat. omega (arith, no_times sats sat none);
  apart = λ other row sat differs found. omega (arith, no_times sats sat none, no_times row.sats sat (h other row found));
}
