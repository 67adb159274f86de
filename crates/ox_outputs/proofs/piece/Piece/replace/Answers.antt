use Rattle.ox_outputs.proofs.PieceLemmas.{outpoints_seen, marks_seen, rows_seen, cell_was, cells_turned}
use Rattle.std.proofs.Common.{arith, ap, slice_set, ◌<◌}
use Rattle.std.specs.Vec.{vec_len}
use Rattle.ox_block.specs.declared.block.OutPoint.{OutPoint}
use Rattle.ox_rules.specs.declared.rows.OutRow.{OutRow}
use Rattle.ox_outputs.specs.declared.slot_cell.Mark.{Mark}
use Rattle.ox_outputs.proofs.piece.Piece.replace.Goals as goal

pub index_mut-requires : goal.index_mut-requires
index_mut-requires c = omega (arith, c.requires, outpoints_seen c.self.inside.outpoints c.self.inside.marks c.self.inside.rows c.args.self.now c.self.invariant c.self.view_is)

pub index_mut-requires-2 : goal.index_mut-requires-2
index_mut-requires-2 c = omega (arith, c.requires, marks_seen c.self.inside.outpoints c.self.inside.marks c.self.inside.rows c.args.self.now c.self.invariant c.self.view_is)

pub index_mut-requires-3 : goal.index_mut-requires-3
index_mut-requires-3 c = omega (arith, c.requires, rows_seen c.self.inside.outpoints c.self.inside.marks c.self.inside.rows c.args.self.now c.self.invariant c.self.view_is)

pub returns-clause-was : goal.returns-clause-was
returns-clause-was c =
    let low : c.args.index < vec_len c.self.inside.outpoints = omega (arith, c.requires, outpoints_seen c.self.inside.outpoints c.self.inside.marks c.self.inside.rows c.args.self.now c.self.invariant c.self.view_is) in
    cell_was c.self.inside.outpoints c.self.inside.marks c.self.inside.rows c.args.self.now c.self.invariant c.self.view_is c.args.index c.index_mut.result.now c.replace.result c.index_mut-2.result.now c.replace-2.result c.index_mut-3.result.now c.replace-3.result low c.index_mut.ensures.value c.index_mut-2.ensures.value c.index_mut-3.ensures.value c.replace.ensures.value c.replace-2.ensures.value c.replace-3.ensures.value

pub returns-clause-cells : goal.returns-clause-cells
returns-clause-cells c =
    cells_turned c.self.inside.outpoints c.self.inside.marks c.self.inside.rows c.args.self.now c.self.invariant c.self.view_is _ _ _ c.args.index c.args.cell
    (ap (λ (at : OutPoint). slice_set c.self.inside.outpoints.items c.args.index at) c.replace.ensures.after)
    (ap (λ (mark : Mark). slice_set c.self.inside.marks.items c.args.index mark) c.replace-2.ensures.after)
    (ap (λ (row : OutRow). slice_set c.self.inside.rows.items c.args.index row) c.replace-3.ensures.after)
