use Rattle.std.proofs.Common.{◌∙◌, ◌-◌, sym}
use Rattle.ox_outputs.specs.Cells.{cell_at, starts_from}
use Rattle.ox_outputs.proofs.OffsetLemmas.{start_there}
use Rattle.ox_outputs.proofs.CellsLemmas.{back_from, near_start, near_nothing}
use Rattle.ox_outputs.proofs.cells.Cells.get.Goals as goal

pub returns-in-Some : goal.returns-in-Some
returns-in-Some c =
    let from = c.in-Some.from in
    let cell = c.in-Some.cell.now in
    let here = c.in-Some.ensures.some in
    c.get.ensures ∙ sym (near_start (cell_at c.args.self.now) c.args.first from (starts_from from cell) here ∙ start_there from cell c.args.first (c.args.first - from) (back_from from c.args.first here.home.low))

pub returns-in-None : goal.returns-in-None
returns-in-None c = sym (near_nothing (cell_at c.args.self.now) c.args.first c.in-None.ensures.none)
