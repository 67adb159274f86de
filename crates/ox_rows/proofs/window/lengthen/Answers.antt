use Rattle.std.proofs.Common.{Bool, subst, arith}
use Rattle.ox_rows.specs.Coming.{Lengthens}
use Rattle.ox_rows.proofs.Ahead.{lengthens_by, lengthens_more}
use Rattle.ox_rows.proofs.window.lengthen.Goals as goal

pub returns-then-not-branch : goal.returns-then-not-branch
returns-then-not-branch g c = record {
  ahead = λ all ahead.
      subst (λ (came : Bool). Lengthens (g.S.Source.comes c.more.new.self c.more.new.world) c.args.bytes.now all came c.more.new.window) c.if-not-branch.true (lengthens_by c.args.bytes.now ahead.rest c.in_ok-more.field-0 c.more.new.window all ahead.is (c.in_ok-more.ensures.comes ahead.rest ahead.comes));
  falls = λ came. absurd (cc came);
  ready = c.in_ok-more.ensures.ready;
  went = c.in_ok-more.ensures.went;
  ended = tt;
}

pub loop-source-init : goal.loop-source-init
loop-source-init g c = record {
  ahead = λ all ahead.
      subst (λ (came : Bool). Lengthens (g.S.Source.comes c.more.new.self c.more.new.world) c.args.bytes.now all came c.more.new.window) c.if-not-branch.false (lengthens_by c.args.bytes.now ahead.rest c.in_ok-more.field-0 c.more.new.window all ahead.is (c.in_ok-more.ensures.comes ahead.rest ahead.comes));
  fell = c.in_ok-more.ensures.falls c.if-not-branch.false;
  ready = c.in_ok-more.ensures.ready;
  went = c.in_ok-more.ensures.went;
}

pub returns-then-not-branch-2 : goal.returns-then-not-branch-2
returns-then-not-branch-2 g c = record {
  ahead = λ all before.
      let was = c.loop-source.invariant.ahead all before in
      lengthens_more c.args.bytes.now all c.loop-source.bytes c.more-in-loop-source.new.window c.in_ok-more-2.field-0 was (lengthens_by {Comes = g.S.Source.comes c.more-in-loop-source.new.self c.more-in-loop-source.new.world} c.loop-source.bytes was.ahead.rest c.in_ok-more-2.field-0 c.more-in-loop-source.new.window all was.ahead.is (c.in_ok-more-2.ensures.comes was.ahead.rest was.ahead.comes));
  falls = λ came. omega (arith, c.loop-source.invariant.fell, c.in_ok-more-2.ensures.stays);
  ready = c.in_ok-more-2.ensures.ready;
  went = g.met.S.Source.then_went _ _ _ _ _ _ c.loop-source.invariant.went c.in_ok-more-2.ensures.went;
  ended = tt;
}

pub loop-source-preserved : goal.loop-source-preserved
loop-source-preserved g c = record {
  ahead = λ all before.
      let was = c.loop-source.invariant.ahead all before in
      lengthens_more c.args.bytes.now all c.loop-source.bytes c.more-in-loop-source.new.window c.in_ok-more-2.field-0 was (lengthens_by {Comes = g.S.Source.comes c.more-in-loop-source.new.self c.more-in-loop-source.new.world} c.loop-source.bytes was.ahead.rest c.in_ok-more-2.field-0 c.more-in-loop-source.new.window all was.ahead.is (c.in_ok-more-2.ensures.comes was.ahead.rest was.ahead.comes));
  fell = omega (arith, c.loop-source.invariant.fell, c.in_ok-more-2.ensures.stays);
  ready = c.in_ok-more-2.ensures.ready;
  went = g.met.S.Source.then_went _ _ _ _ _ _ c.loop-source.invariant.went c.in_ok-more-2.ensures.went;
}

pub returns : goal.returns
returns g c = record {
  ahead = λ all before. c.loop-source.invariant.ahead all before;
  falls = λ came. c.loop-source.invariant.fell;
  ready = c.loop-source.invariant.ready;
  went = c.loop-source.invariant.went;
  ended = tt;
}
