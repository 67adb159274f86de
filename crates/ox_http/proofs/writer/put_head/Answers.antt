-- The lines are put one after another.
use Rattle.std.proofs.Common.{arith}
use Rattle.ox_http.proofs.Putting.{Puts-then, Puts-most}
use Rattle.ox_http.proofs.writer.put_head.Goals as goal

pub returns : goal.returns
returns c =
    Puts-most
    (Puts-then
    (Puts-then
    (Puts-then
    (Puts-then (Puts-then c.put_status.ensures c.put_kind.ensures) c.put_encoding.ensures)
    c.put_length.ensures)
    c.put_close.ensures)
    c.put.ensures)
    _ (omega arith)
