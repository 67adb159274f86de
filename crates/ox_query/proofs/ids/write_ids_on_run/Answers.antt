use Rattle.std.proofs.Common.{◌+◌, arith}
use Rattle.ox_range.specs.Runs.{end_of}
use Rattle.ox_replies.specs.Walk.{on_between}
use Rattle.ox_query.proofs.IdLists.{walked_all, walked_one}
use Rattle.ox_query.proofs.ids.write_ids_on_run.Goals as goal

pub write_ids-requires : goal.write_ids-requires
write_ids-requires g c = c.in-Some.ensures.there

pub loop-sat-init : goal.loop-sat-init
loop-sat-init g c last behind = behind

pub loop-sat-preserved : goal.loop-sat-preserved
loop-sat-preserved g c last behind =
    let rows = (g.V.View.index c.args.live.now).inscriptions in
    let end = end_of c.args.run.now in
    c.loop-sat.invariant last
    (walked_one rows c.in-Some.numbers.now (on_between rows (c.in-Some.sat + 1) end) (on_between rows c.loop-sat.from end)
    c.in-Some.ensures.told c.write_ids.ensures behind)

pub loop-sat-smaller : goal.loop-sat-smaller
loop-sat-smaller g c = omega (arith, c.in-Some.ensures.between.0, c.in-Some.ensures.between.1)

pub returns : goal.returns
returns g c =
    let rows = (g.V.View.index c.args.live.now).inscriptions in
    c.loop-sat.invariant c.loop-sat.out
    (walked_all rows c.loop-sat.out (on_between rows c.loop-sat.from (end_of c.args.run.now)) c.in_default.ensures.told)
