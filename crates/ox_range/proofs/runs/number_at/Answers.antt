use Rattle.std.proofs.Common.{sym, ◌∙◌, arith}
use Rattle.ox_range.proofs.RunLemmas.{zero_run, step, number_here, number_behind, none_behind}
use Rattle.ox_range.proofs.runs.number_at.Goals as goal

pub overflow_add-result : goal.overflow_add-result
overflow_add-result c = omega (arith, (step c.args.runs.now c.loop-run.run-index zero_run c.loop-run-test.true c.loop-run.invariant.maximal).fits)

pub returns-then-left-run : goal.returns-then-left-run
returns-then-left-run c =
    let s = step c.args.runs.now c.loop-run.run-index zero_run c.loop-run-test.true c.loop-run.invariant.maximal in
    sym (number_here c.args.runs.now c.loop-run.run-index _ c.loop-run.left s c.if-left-run.true) ∙ c.loop-run.invariant.same

pub loop-run-preserved : goal.loop-run-preserved
loop-run-preserved c =
    let s = step c.args.runs.now c.loop-run.run-index zero_run c.loop-run-test.true c.loop-run.invariant.maximal in
    record {
      maximal = s.rest;
      within = omega (arith, s.long, c.loop-run.invariant.within, c.if-left-run.false);
      same = sym (number_behind c.args.runs.now c.loop-run.run-index _ c.loop-run.left s c.if-left-run.false) ∙ c.loop-run.invariant.same;
    }

pub unreachable-requires : goal.unreachable-requires
unreachable-requires c = absurd (omega (arith, c.loop-run.invariant.within, none_behind c.args.runs.now c.loop-run.run-index c.loop-run-test.false))
