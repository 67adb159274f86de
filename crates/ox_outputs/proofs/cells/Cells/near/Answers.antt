use Rattle.std.proofs.Common.{ℕ}
use Rattle.ox_outputs.specs.Cells.{StartList}
use Rattle.ox_outputs.proofs.CellsLemmas.{near_last}
use Rattle.ox_outputs.proofs.cells.Cells.near.Goals as goal

pub returns-in-Some-clause-some : goal.returns-in-Some-clause-some
returns-in-Some-clause-some c =
    let range = c.range-range.ensures.in_range tt in
    let e : ℕ × StartList = (c.in-Some.from.now, c.in-Some.cell.now) in
    let here = range.3 e c.next_back.new.self c.in-Some.ensures.steps in
    near_last c.self.inside.cells.entries c.args.self.now c.args.number c.in-Some.from.now c.in-Some.cell.now c.self.view_is here.0.1 here.1
    (λ q to some. range.4 e c.next_back.new.self c.in-Some.ensures.steps q (tt, to) some)
