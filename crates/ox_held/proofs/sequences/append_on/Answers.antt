use Rattle.ox_range.proofs.RunLemmas.{maximal-at, zero_run}
use Rattle.ox_held.proofs.OnSats.{all_appended, none_appended, one_appended}
use Rattle.ox_held.proofs.sequences.append_on.Goals as goal

pub loop-run-init : goal.loop-run-init
loop-run-init g c = none_appended (g.V.View.index c.args.live.now).inscriptions c.args.found.now.items

pub append_on_run-requires : goal.append_on_run-requires
append_on_run-requires g c = (maximal-at c.args.runs.now c.loop-run.run-index zero_run c.requires c.loop-run-test.true).1

pub loop-run-preserved : goal.loop-run-preserved
loop-run-preserved g c =
    one_appended (g.V.View.index c.args.live.now).inscriptions c.args.runs.now c.loop-run.run-index zero_run
    c.args.found.now.items c.loop-run.found.items c.append_on_run.new.found.items
    c.loop-run-test.true c.loop-run.invariant c.in_ok-append_on_run.ensures

pub returns : goal.returns
returns g c =
    all_appended (g.V.View.index c.args.live.now).inscriptions c.args.runs.now c.loop-run.run-index
    c.args.found.now.items c.loop-run.found.items c.loop-run-test.false c.loop-run.invariant
