use Rattle.std.proofs.Common.{arith, ◌≡◌, ◌<◌}
use Rattle.ox_allocation.proofs.PartLemmas.{first_more, next_share, next_more}
use Rattle.ox_allocation.proofs.parts.next_even.Goals as goal

pub overflow_add-result : goal.overflow_add-result
overflow_add-result c =
    let some : 0 < c.args.extra = omega (arith, c.if-more.true) in
    omega (arith, c.requires, first_more c.args.share c.args.extra some)

pub returns-then-more : goal.returns-then-more
returns-then-more c = λ count. next_more _ _ count (omega (arith, c.if-more.true))

pub returns-else-more : goal.returns-else-more
returns-else-more c =
    let none : c.args.extra ≡ 0 = omega (arith, c.if-more.false) in
    λ count. rw none (next_share c.args.share count)
