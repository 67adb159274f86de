use Rattle.std.proofs.Common.{◌≤◌, ◌+◌, ◌-◌, ◌^◌, arith}
use Rattle.ox_outputs.specs.Cells.{cell_at}
use Rattle.ox_outputs.proofs.CellsLemmas.{back_from, not_there, not_beyond, in_no_cell, free_beyond, middle_fits, near_cut}
use Rattle.ox_outputs.proofs.cells.Cells.make_room.Goals as goal

pub add_cell-requires : goal.add_cell-requires
add_cell-requires c = free_beyond (cell_at c.args.self.now) c.args.first c.in-Some.from c.base_for.result (2 ^ 32) c.in-Some.cell.now c.near.ensures.home c.in-Some.ensures.some c.reaches.ensures.none (omega arith) c.base_for.ensures.least c.base_for.ensures.low

pub returns-then-not-reaches-clause-there : goal.returns-then-not-reaches-clause-there
returns-then-not-reaches-clause-there c = λ some.
    let there = back_from c.in-Some.from c.args.first c.in-Some.ensures.some.home.low in
    absurd (not_beyond (cell_at c.args.self.now) c.args.first c.in-Some.from (c.args.first - c.in-Some.from) (2 ^ 32) c.in-Some.cell.now c.in-Some.ensures.some there (c.reaches.ensures.high c.if-not-reaches.true) c.reaches.ensures.none some)

pub overflow_add-middle : goal.overflow_add-middle
overflow_add-middle c = record { fits = middle_fits c.args.self.now c.args.first c.in-Some.from c.in_ok-low-in-Some.middle c.in-Some.cell.now c.in_ok-low-in-Some.low c.in_ok-low-in-Some.high c.near.ensures.home c.near.ensures.numbers c.in-Some.ensures.some c.in_ok-low-in-Some.ensures }

pub split-requires-clause-cut : goal.split-requires-clause-cut
split-requires-clause-cut c = near_cut (cell_at c.args.self.now) c.args.first c.in-Some.from c.in_ok-low-in-Some.middle c.in-Some.cell.now c.in_ok-low-in-Some.low c.in_ok-low-in-Some.high c.in-Some.ensures.some c.in_ok-low-in-Some.ensures

pub returns-in_err-low-in-Some-clause-there : goal.returns-in_err-low-in-Some-clause-there
returns-in_err-low-in-Some-clause-there c = λ some.
    let there = back_from c.in-Some.from c.args.first c.in-Some.ensures.some.home.low in
    absurd (not_there (cell_at c.args.self.now) c.args.first c.in-Some.from (c.args.first - c.in-Some.from) c.in-Some.cell.now c.takes.result c.in-Some.ensures.some there c.takes.ensures.there c.if-takes.false some)

pub returns-in_err-split-in-Some-clause-there : goal.returns-in_err-split-in-Some-clause-there
returns-in_err-split-in-Some-clause-there c = λ some.
    let there = back_from c.in-Some.from c.args.first c.in-Some.ensures.some.home.low in
    absurd (not_there (cell_at c.args.self.now) c.args.first c.in-Some.from (c.args.first - c.in-Some.from) c.in-Some.cell.now c.takes.result c.in-Some.ensures.some there c.takes.ensures.there c.if-takes.false some)

pub returns-then-first-middle-clause-home : goal.returns-then-first-middle-clause-home
returns-then-first-middle-clause-home c = c.in_ok-split-in-Some.ensures.low c.args.first c.if-first-middle.true c.in-Some.ensures.some.home

pub returns-else-first-middle-clause-home : goal.returns-else-first-middle-clause-home
returns-else-first-middle-clause-home c =
    let above : c.in-Some.from + c.in_ok-low-in-Some.middle ≤ c.args.first = omega (arith, c.if-first-middle.false) in
    c.in_ok-split-in-Some.ensures.high c.args.first above c.in-Some.ensures.some.home

pub returns-in-None-clause-there : goal.returns-in-None-clause-there
returns-in-None-clause-there c = λ some. absurd (in_no_cell (cell_at c.args.self.now) c.args.first c.in-None.ensures.none some)
