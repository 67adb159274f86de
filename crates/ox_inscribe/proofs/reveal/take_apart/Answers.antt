use Rattle.std.proofs.Common.{arith, refl, sym, ap, ◌≡◌, ◌∙◌, ◌-◌, ◌+◌, ℕ, length, take, false}
use Rattle.std.specs.Prelude.{not}
use Rattle.std.proofs.lemmas.List.{take_all, take-take}
use Rattle.ox_inscribe.proofs.OrderLaws.{part_all, part_more, part_same, part_none, popped}
use Rattle.ox_inscribe.proofs.reveal.take_apart.Goals as goal
use Rattle.ox_inscribe.proofs.reveal.take_apart.Goals.{then-fees-behind+in_ok-push, else-fees-behind+in_ok-push-2}

pub loop-behind-init : goal.loop-behind-init
loop-behind-init c = record {
  rows = sym (take_all (length c.args.rows.now.rows - 0) c.args.rows.now.rows (omega arith));
  jubilee = refl;
  kept = part_none not c.args.fees.now c.args.rows.now.rows c.new-kept.result.items c.new-kept.ensures.items;
  gone = part_none (λ fee. fee) c.args.fees.now c.args.rows.now.rows c.new-gone.result.items c.new-gone.ensures.items;
}

pub returns-in_err-push-clause-front : goal.returns-in_err-push-clause-front
returns-in_err-push-clause-front c =
    ap (take (length c.args.rows.now.rows - length c.args.fees.now)) ((popped c.args.rows.now.rows c.loop-behind.rows.rows c.pop.new.self.rows c.loop-behind.behind c.in-Some.row c.loop-behind.invariant.rows (omega (arith, c.loop-behind-test.true, c.requires.each)) c.in-Some.ensures.rows).0)
    ∙ take-take (length c.args.rows.now.rows - length c.args.fees.now) (length c.args.rows.now.rows - (c.loop-behind.behind + 1)) c.args.rows.now.rows (omega (arith, c.loop-behind-test.true))

pub returns-in_err-push-2-clause-front : goal.returns-in_err-push-2-clause-front
returns-in_err-push-2-clause-front c =
    ap (take (length c.args.rows.now.rows - length c.args.fees.now)) ((popped c.args.rows.now.rows c.loop-behind.rows.rows c.pop.new.self.rows c.loop-behind.behind c.in-Some.row c.loop-behind.invariant.rows (omega (arith, c.loop-behind-test.true, c.requires.each)) c.in-Some.ensures.rows).0)
    ∙ take-take (length c.args.rows.now.rows - length c.args.fees.now) (length c.args.rows.now.rows - (c.loop-behind.behind + 1)) c.args.rows.now.rows (omega (arith, c.loop-behind-test.true))

pub loop-behind-preserved : goal.loop-behind-preserved
loop-behind-preserved c =
    let out = popped c.args.rows.now.rows c.loop-behind.rows.rows c.pop.new.self.rows c.loop-behind.behind c.in-Some.row c.loop-behind.invariant.rows (omega (arith, c.loop-behind-test.true, c.requires.each)) c.in-Some.ensures.rows in record {
      rows = out.0;
      jubilee = c.in-Some.ensures.jubilee ∙ c.loop-behind.invariant.jubilee;
      kept = elim c.if-fees-behind.branch [
        | then-fees-behind+in_ok-push w ↦
            ap (λ v. v.items) w.kept-is
            ∙ part_same not c.args.fees.now c.args.rows.now.rows c.loop-behind.kept.items c.loop-behind.behind false c.in-Some.row c.loop-behind-test.true c.requires.each out.1 (ap not w.if-fees-behind.true) c.loop-behind.invariant.kept
        | else-fees-behind+in_ok-push-2 w ↦
            part_more not c.args.fees.now c.args.rows.now.rows c.loop-behind.kept.items c.if-fees-behind.kept.items c.loop-behind.behind false c.in-Some.row c.loop-behind-test.true c.requires.each out.1 (ap not w.if-fees-behind.false) (ap (λ v. v.items) w.kept-is ∙ w.in_ok-push-2.ensures.items) c.loop-behind.invariant.kept
      ];
      gone = elim c.if-fees-behind.branch [
        | then-fees-behind+in_ok-push w ↦
            part_more (λ fee. fee) c.args.fees.now c.args.rows.now.rows c.loop-behind.gone.items c.if-fees-behind.gone.items c.loop-behind.behind false c.in-Some.row c.loop-behind-test.true c.requires.each out.1 w.if-fees-behind.true (ap (λ v. v.items) w.gone-is ∙ w.in_ok-push.ensures.items) c.loop-behind.invariant.gone
        | else-fees-behind+in_ok-push-2 w ↦
            ap (λ v. v.items) w.gone-is
            ∙ part_same (λ fee. fee) c.args.fees.now c.args.rows.now.rows c.loop-behind.gone.items c.loop-behind.behind false c.in-Some.row c.loop-behind-test.true c.requires.each out.1 w.if-fees-behind.false c.loop-behind.invariant.gone
      ];
    }

pub returns-in_err-push-clause-jubilee : goal.returns-in_err-push-clause-jubilee
returns-in_err-push-clause-jubilee c = c.in-Some.ensures.jubilee ∙ c.loop-behind.invariant.jubilee

pub returns-in_err-push-2-clause-jubilee : goal.returns-in_err-push-2-clause-jubilee
returns-in_err-push-2-clause-jubilee c = c.in-Some.ensures.jubilee ∙ c.loop-behind.invariant.jubilee

pub returns-clause-kept : goal.returns-clause-kept
returns-clause-kept c = part_all not c.args.fees.now c.args.rows.now.rows c.loop-behind.kept.items c.loop-behind.behind (omega arith) c.loop-behind.invariant.kept

pub returns-clause-gone : goal.returns-clause-gone
returns-clause-gone c = part_all (λ fee. fee) c.args.fees.now c.args.rows.now.rows c.loop-behind.gone.items c.loop-behind.behind (omega arith) c.loop-behind.invariant.gone

pub returns-clause-rows : goal.returns-clause-rows
returns-clause-rows c =
    let all : c.loop-behind.behind ≡ length c.args.fees.now = omega arith in
    c.loop-behind.invariant.rows ∙ ap (λ (n : ℕ). take (length c.args.rows.now.rows - n) c.args.rows.now.rows) all

pub returns-clause-front : goal.returns-clause-front
returns-clause-front c =
    ap (take (length c.args.rows.now.rows - length c.args.fees.now)) c.loop-behind.invariant.rows
    ∙ take-take (length c.args.rows.now.rows - length c.args.fees.now) (length c.args.rows.now.rows - c.loop-behind.behind) c.args.rows.now.rows (omega arith)

pub returns-clause-jubilee : goal.returns-clause-jubilee
returns-clause-jubilee c = c.loop-behind.invariant.jubilee
