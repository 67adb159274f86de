use Rattle.std.proofs.Common.{◌+◌, ◌<◌, ◌≤◌, ◌⊎◌, ap, ◌∙◌, arith, get_or, inl, inr}
use Rattle.ox_range.proofs.RunLemmas.{zero_run, step, place_here, place_later, position_some, position_none, no_place, none_behind}
use Rattle.ox_range.specs.Runs.{numbers_of}
use Rattle.ox_range.proofs.runs.place_among.Goals.{else-run-number-via-then-run-number+else-number-run, else-run-number-via-else-run-number}
use Rattle.ox_range.proofs.runs.place_among.Goals as goal

pub overflow_add-result : goal.overflow_add-result
overflow_add-result c =
    let s = step c.args.runs.now c.loop-run.run-index zero_run c.loop-run-test.true c.loop-run.invariant.maximal in
    omega (arith, s.long, c.loop-run.invariant.len, c.requires.fits, c.if-number-run.true)

pub returns-then-number-run : goal.returns-then-number-run
returns-then-number-run c =
    let s = step c.args.runs.now c.loop-run.run-index zero_run c.loop-run-test.true c.loop-run.invariant.maximal in
    position_some (numbers_of c.args.runs.now) c.args.number _
    (c.loop-run.invariant.place ∙ ap (λ n. c.loop-run.before + n) (place_here c.args.runs.now c.loop-run.run-index _ c.args.number s c.if-run-number.true c.if-number-run.true))
    (omega (arith, s.long, c.loop-run.invariant.len, c.if-number-run.true))

pub overflow_add-before : goal.overflow_add-before
overflow_add-before c =
    let s = step c.args.runs.now c.loop-run.run-index zero_run c.loop-run-test.true c.loop-run.invariant.maximal in
    omega (arith, s.long, c.loop-run.invariant.len, c.requires.fits)

pub loop-run-preserved : goal.loop-run-preserved
loop-run-preserved c =
    let s = step c.args.runs.now c.loop-run.run-index zero_run c.loop-run-test.true c.loop-run.invariant.maximal in
    let out : (c.args.number < (get_or c.args.runs.now c.loop-run.run-index zero_run).first) ⊎ ((get_or c.args.runs.now c.loop-run.run-index zero_run).first + (get_or c.args.runs.now c.loop-run.run-index zero_run).count ≤ c.args.number) =
    elim c.else-run-number.branch [
      | else-run-number-via-then-run-number+else-number-run w ↦ inr (omega (arith, w.if-run-number.true, w.if-number-run.false))
      | else-run-number-via-else-run-number w ↦ inl w.if-run-number.false
    ] in
    record {
      maximal = s.rest;
      len = omega (arith, s.long, c.loop-run.invariant.len);
      place = c.loop-run.invariant.place ∙ omega (arith, place_later c.args.runs.now c.loop-run.run-index _ c.args.number s out);
    }

pub returns : goal.returns
returns c = position_none _ c.args.number (c.loop-run.invariant.place ∙ omega (arith, c.loop-run.invariant.len, none_behind c.args.runs.now c.loop-run.run-index c.loop-run-test.false, no_place c.args.runs.now c.loop-run.run-index c.args.number c.loop-run-test.false))
