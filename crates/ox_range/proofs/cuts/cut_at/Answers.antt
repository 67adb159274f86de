use Rattle.std.proofs.Common.{◌<◌, arith}
use Rattle.ox_range.proofs.RunLemmas.{zero_run}
use Rattle.ox_range.proofs.CutLemmas.{run_before, one_back}
use Rattle.ox_range.proofs.cuts.cut_at.Goals as goal

pub overflow_sub-index : goal.overflow_sub-index
overflow_sub-index c = run_before c.args.runs.now c.loop-before.index c.args.place c.loop-before.before c.loop-before.invariant.before c.loop-before-test.true

pub bounds-runs-index : goal.bounds-runs-index
bounds-runs-index c = omega (arith, run_before c.args.runs.now c.loop-before.index c.args.place c.loop-before.before c.loop-before.invariant.before c.loop-before-test.true)

pub overflow_sub-before : goal.overflow_sub-before
overflow_sub-before c =
    let some : 0 < c.loop-before.index = run_before c.args.runs.now c.loop-before.index c.args.place c.loop-before.before c.loop-before.invariant.before c.loop-before-test.true in
    omega (arith, one_back c.args.runs.now c.loop-before.index c.loop-before.before zero_run some c.loop-before.invariant.index c.loop-before.invariant.before)

pub loop-before-smaller : goal.loop-before-smaller
loop-before-smaller c = omega (arith, run_before c.args.runs.now c.loop-before.index c.args.place c.loop-before.before c.loop-before.invariant.before c.loop-before-test.true)

pub loop-before-preserved : goal.loop-before-preserved
loop-before-preserved c =
    let some : 0 < c.loop-before.index = run_before c.args.runs.now c.loop-before.index c.args.place c.loop-before.before c.loop-before.invariant.before c.loop-before-test.true in
    let back = one_back c.args.runs.now c.loop-before.index c.loop-before.before zero_run some c.loop-before.invariant.index c.loop-before.invariant.before in
    record {
      index = omega arith;
      before = omega (arith, back);
      inside = λ less. (omega arith, omega (arith, back, c.loop-before-test.true));
    }
