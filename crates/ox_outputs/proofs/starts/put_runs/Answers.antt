use Rattle.std.proofs.Common.{◌∙◌, ap, cond, List, Some, get_or, take, ◌+◌}
use Rattle.std.proofs.lemmas.List.{take_all, take_more}
use Rattle.ox_range.proofs.RunLemmas.{zero_run}
use Rattle.ox_range.specs.declared.runs.Run.{Run}
use Rattle.ox_outputs.specs.Starts.{is_among, firsts_of, slot_from}
use Rattle.ox_outputs.proofs.StartLemmas.{added_run, noted_more}
use Rattle.ox_outputs.proofs.starts.put_runs.Goals as goal

pub returns-in_err-over-clause-noted : goal.returns-in_err-over-clause-noted
returns-in_err-over-clause-noted c = noted_more _ _ _ _ _ _ c.loop-run.invariant.noted c.put_run.ensures.noted

pub loop-run-preserved : goal.loop-run-preserved
loop-run-preserved c =
    let runs = c.args.runs.now in
    let index = c.loop-run.run-index in
    let run = get_or runs index zero_run in record {
      ok = λ q. added_run q c.args.slot run (take index runs) (take (index + 1) runs) _ (slot_from c.loop-run.starts q) _
          (take_more runs index zero_run c.loop-run-test.true) (c.in_ok-over.ensures.ok q) (c.loop-run.invariant.ok q);
      noted = noted_more _ _ _ _ _ _ c.loop-run.invariant.noted c.put_run.ensures.noted;
      logged = c.put_run.ensures.logged;
    }

pub returns-clause-ok : goal.returns-clause-ok
returns-clause-ok c = λ q.
    c.loop-run.invariant.ok q
    ∙ ap (λ (runs : List Run). cond (is_among (firsts_of runs) q) (Some c.args.slot) (slot_from c.args.starts.now q)) (take_all c.loop-run.run-index c.args.runs.now c.loop-run-test.false)
