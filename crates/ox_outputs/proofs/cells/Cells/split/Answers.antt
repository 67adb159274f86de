use Rattle.std.proofs.Common.{subst, sym}
use Rattle.std.specs.Prelude.{IsSome}
use Rattle.ox_outputs.specs.Cells.{CellList, cell_at}
use Rattle.ox_outputs.proofs.CellsLemmas.{cell_split, cell_split_home, surely_put, there_still, offsets_at, offsets_some}
use Rattle.ox_outputs.proofs.cells.Cells.split.Goals as goal

pub invariant_of-self-2 : goal.invariant_of-self-2
invariant_of-self-2 c =
    let m = c.self.inside.cells.entries in
    let f = c.insert.new.self.entries in
    let first = c.in_ok-insert.ensures.updates.0 in
    let there = there_still (offsets_at f) (offsets_at m) c.args.middle c.args.from c.args.high first (offsets_some (offsets_at m c.args.from) c.args.from (subst (λ (x : CellList). IsSome (cell_at x c.args.from)) (sym c.self.view_is) c.requires.there)) in
    let second = surely_put c.insert-whole.result (offsets_at f c.args.from) c.insert-whole.ensures.updates c.insert-whole.ensures.absent there in
    cell_split_home m c.args.self.now f c.insert-whole.new.self.entries c.args.from c.args.middle c.args.low c.args.high c.self.view_is c.self.invariant.0 c.requires.there c.requires.cut first second.0 c.self.invariant.1

pub returns-clause-same : goal.returns-clause-same
returns-clause-same c = λ q.
    let m = c.self.inside.cells.entries in
    let f = c.insert.new.self.entries in
    let first = c.in_ok-insert.ensures.updates.0 in
    let there = there_still (offsets_at f) (offsets_at m) c.args.middle c.args.from c.args.high first (offsets_some (offsets_at m c.args.from) c.args.from (subst (λ (x : CellList). IsSome (cell_at x c.args.from)) (sym c.self.view_is) c.requires.there)) in
    let second = surely_put c.insert-whole.result (offsets_at f c.args.from) c.insert-whole.ensures.updates c.insert-whole.ensures.absent there in
    cell_split m c.args.self.now f c.insert-whole.new.self.entries c.args.from c.args.middle c.args.low c.args.high c.self.view_is c.self.invariant.0 c.requires.there c.requires.cut first second.0 q
