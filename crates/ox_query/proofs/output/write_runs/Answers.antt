use Rattle.std.proofs.Common.{map, sym}
use Rattle.serde_json.specs.Data.{Items, array}
use Rattle.ox_range.proofs.RunLemmas.{maximal-at, zero_run}
use Rattle.ox_replies.specs.Outputs.{run_tree}
use Rattle.ox_query.specs.Written.{tokens_of}
use Rattle.ox_query.proofs.Arrays.{all, bracketed, one_more}
use Rattle.ox_query.proofs.Runs.{run_items-map}
use Rattle.ox_query.proofs.Steps.{same}
use Rattle.ox_query.proofs.output.write_runs.Goals as goal

pub write_run-requires : goal.write_run-requires
write_run-requires c = (maximal-at c.args.runs.now c.loop-run.run-index zero_run c.requires c.loop-run-test.true).1

pub loop-run-init : goal.loop-run-init
loop-run-init c = c.begin_array.ensures

pub loop-run-preserved : goal.loop-run-preserved
loop-run-preserved c =
    one_more run_tree c.args.runs.now c.loop-run.run-index zero_run c.loop-run-test.true c.loop-run.invariant c.write_run.ensures

pub returns : goal.returns
returns c =
    same (λ (items : Items). tokens_of (array items)) (sym (run_items-map c.args.runs.now))
    (bracketed (map run_tree c.args.runs.now)
    (all run_tree c.args.runs.now c.loop-run.run-index c.loop-run-test.false c.loop-run.invariant) c.end_array.ensures)
