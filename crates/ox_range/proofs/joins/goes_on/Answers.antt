use Rattle.std.proofs.Common.{◌<◌, ◌+◌, ◌-◌, ◌^◌, arith, length}
use Rattle.ox_range.proofs.RunLemmas.{maximal-at}
use Rattle.ox_range.proofs.joins.goes_on.Goals as goal

pub overflow_add-result : goal.overflow_add-result
overflow_add-result c =
    let last = maximal-at c.args.runs.now (length c.args.runs.now - 1) c.in-Some-Some.last.now c.requires (omega (arith, c.in-Some-Some.ensures.item.3)) in
    let fits : c.in-Some-Some.last.now.first + c.in-Some-Some.last.now.count < 2 ^ 64 = rw (c.in-Some-Some.ensures.item.1) last.1 in
    omega (arith, fits)
