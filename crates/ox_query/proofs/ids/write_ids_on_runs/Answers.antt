use Rattle.ox_range.proofs.RunLemmas.{maximal-at, zero_run}
use Rattle.ox_query.proofs.IdLists.{all_runs_told, no_run, one_run_more}
use Rattle.ox_query.proofs.ids.write_ids_on_runs.Goals as goal

pub write_ids_on_run-requires : goal.write_ids_on_run-requires
write_ids_on_run-requires g c = (maximal-at c.args.runs.now c.loop-run.run-index zero_run c.requires c.loop-run-test.true).1

pub loop-run-init : goal.loop-run-init
loop-run-init g c = no_run (g.V.View.index c.args.live.now).inscriptions c.begin_array.ensures

pub loop-run-preserved : goal.loop-run-preserved
loop-run-preserved g c =
    one_run_more (g.V.View.index c.args.live.now).inscriptions c.args.runs.now c.loop-run.run-index zero_run
    c.loop-run-test.true c.loop-run.invariant c.write_ids_on_run.ensures

pub returns : goal.returns
returns g c =
    all_runs_told (g.V.View.index c.args.live.now).inscriptions c.args.runs.now c.loop-run.run-index c.loop-run-test.false c.loop-run.invariant c.end_array.ensures
