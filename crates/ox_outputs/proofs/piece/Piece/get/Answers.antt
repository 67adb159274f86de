use Rattle.ox_outputs.proofs.PieceLemmas.{cell_seen, no_cell}
use Rattle.std.proofs.Common.{arith}
use Rattle.ox_outputs.proofs.piece.Piece.get.Goals as goal

pub returns-then-index-len : goal.returns-then-index-len
returns-then-index-len c = cell_seen c.self.inside.outpoints c.self.inside.marks c.self.inside.rows c.args.self.now c.self.invariant c.self.view_is c.args.index c.index.result.now c.index-then-index-len.result.now c.index-then-index-len-2.result.now (omega (arith, c.len.ensures, c.if-index-len.true)) c.index.ensures c.index-then-index-len.ensures c.index-then-index-len-2.ensures

pub returns-else-index-len : goal.returns-else-index-len
returns-else-index-len c = no_cell c.self.inside.outpoints c.self.inside.marks c.self.inside.rows c.args.self.now c.self.invariant c.self.view_is c.args.index (omega (arith, c.len.ensures, c.if-index-len.false))
