use Rattle.ox_outputs.proofs.PieceLemmas.{outpoints_seen, marks_seen, rows_seen, cells_grown}
use Rattle.std.proofs.Common.{arith, ◌∙◌}
use Rattle.ox_outputs.proofs.piece.Piece.add.Goals as goal

pub push_reserved-requires : goal.push_reserved-requires
push_reserved-requires c = omega (arith, c.requires, c.self.invariant.room, outpoints_seen c.self.inside.outpoints c.self.inside.marks c.self.inside.rows c.args.self.now c.self.invariant c.self.view_is)

pub push_reserved-requires-2 : goal.push_reserved-requires-2
push_reserved-requires-2 c = omega (arith, c.requires, c.self.invariant.room_for_marks, marks_seen c.self.inside.outpoints c.self.inside.marks c.self.inside.rows c.args.self.now c.self.invariant c.self.view_is)

pub push_reserved-requires-3 : goal.push_reserved-requires-3
push_reserved-requires-3 c = omega (arith, c.requires, c.self.invariant.room_for_rows, rows_seen c.self.inside.outpoints c.self.inside.marks c.self.inside.rows c.args.self.now c.self.invariant c.self.view_is)

pub returns-clause-cells : goal.returns-clause-cells
returns-clause-cells c = cells_grown c.self.inside.outpoints c.self.inside.marks c.self.inside.rows c.args.self.now c.self.invariant c.self.view_is c.push_reserved.new.self.items c.push_reserved-2.new.self.items c.push_reserved-3.new.self.items c.args.cell c.push_reserved.ensures.items c.push_reserved-2.ensures.items c.push_reserved-3.ensures.items

pub returns-clause-index : goal.returns-clause-index
returns-clause-index c = c.len-index.ensures ∙ outpoints_seen c.self.inside.outpoints c.self.inside.marks c.self.inside.rows c.args.self.now c.self.invariant c.self.view_is
