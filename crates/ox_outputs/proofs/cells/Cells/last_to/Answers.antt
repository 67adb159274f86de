use Rattle.std.proofs.Common.{◌≡◌, ◌+◌, ◌-◌, ◌<◌, Some, arith}
use Rattle.ox_outputs.specs.Cells.{cell_at, starts_from}
use Rattle.ox_outputs.proofs.OffsetLemmas.{last_from, above_from}
use Rattle.ox_outputs.proofs.CellsLemmas.{back_from, last_in_cell, below_cell, all_above, above_no_cell}
use Rattle.ox_outputs.proofs.cells.Cells.last_to.Goals as goal

pub returns-in-Some-last_to-clause-some : goal.returns-in-Some-last_to-clause-some
returns-in-Some-last_to-clause-some c =
    let from = c.in-Some.from in
    let cell = c.in-Some.cell.now in
    let at = c.loop-from.at in
    let here = c.in-Some.ensures.some in
    let last = last_from from cell (at - from) at (c.in-Some-last_to.offset, c.in-Some-last_to.slot) (back_from from at here.home.low) c.in-Some-last_to.ensures.some in
    last_in_cell (cell_at c.args.self.now) at c.args.number from (starts_from from cell) (Some (from + c.in-Some-last_to.offset, c.in-Some-last_to.slot)) c.near.ensures.home here c.loop-from.invariant.low c.loop-from.invariant.rest last

pub loop-from-preserved : goal.loop-from-preserved
loop-from-preserved c =
    let from = c.in-Some.from in
    let cell = c.in-Some.cell.now in
    let at = c.loop-from.at in
    let here = c.in-Some.ensures.some in
    let none = above_from from cell (at - from) at (back_from from at here.home.low) c.in_default-last_to.ensures.none in
    let below = below_cell (cell_at c.args.self.now) at c.args.number from (starts_from from cell) c.near.ensures.home here c.loop-from.invariant.rest none in
    let next : c.in-Some-checked_sub.before + 1 ≡ from = omega (arith, c.in-Some-checked_sub.ensures) in record {
      low = omega (arith, next, here.home.low, c.loop-from.invariant.low);
      rest = λ q some to. let under : q < from = below q some to in omega (arith, next, under);
    }

pub returns-in-None-clause-none : goal.returns-in-None-clause-none
returns-in-None-clause-none c =
    let from = c.in-Some.from in
    let cell = c.in-Some.cell.now in
    let at = c.loop-from.at in
    let here = c.in-Some.ensures.some in
    let none = above_from from cell (at - from) at (back_from from at here.home.low) c.in_default-last_to.ensures.none in
    let least : from ≡ 0 = omega (arith, c.in-None.ensures) in
    all_above (cell_at c.args.self.now) c.args.number from least
    (below_cell (cell_at c.args.self.now) at c.args.number from (starts_from from cell) c.near.ensures.home here c.loop-from.invariant.rest none)

pub returns-clause-none : goal.returns-clause-none
returns-clause-none c = above_no_cell (cell_at c.args.self.now) c.loop-from.at c.args.number c.loop-from.invariant.rest c.in_default.ensures.none
