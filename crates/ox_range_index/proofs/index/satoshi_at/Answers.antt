use Rattle.std.proofs.Common.{arith}
use Rattle.ox_range_index.proofs.CountLaws.{found, some_count}
use Rattle.ox_range_index.proofs.index.satoshi_at.Goals as goal

pub run_at-run-requires : goal.run_at-run-requires
run_at-run-requires c =
    let some = some_count c.args.counts.now c.args.runs.now c.args.place c.requires.counted c.requires.within in
    record { some = some.0; first = some.1 }

pub bounds-runs-run : goal.bounds-runs-run
bounds-runs-run c = (found c.args.counts.now c.args.runs.now c.args.place c.run_at-run.result c.requires.maximal c.requires.counted c.run_at-run.ensures.within c.run_at-run.ensures.before c.run_at-run.ensures.behind c.requires.within).0

pub overflow_add-result : goal.overflow_add-result
overflow_add-result c = let fits = (found c.args.counts.now c.args.runs.now c.args.place c.run_at-run.result c.requires.maximal c.requires.counted c.run_at-run.ensures.within c.run_at-run.ensures.before c.run_at-run.ensures.behind c.requires.within).2 in omega (arith, fits)

pub returns : goal.returns
returns c = (found c.args.counts.now c.args.runs.now c.args.place c.run_at-run.result c.requires.maximal c.requires.counted c.run_at-run.ensures.within c.run_at-run.ensures.before c.run_at-run.ensures.behind c.requires.within).1
