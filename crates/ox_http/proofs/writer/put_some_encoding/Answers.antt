-- The line is put in three parts.
use Rattle.std.proofs.Common.{arith}
use Rattle.ox_http.proofs.Putting.{Puts-then, Puts-most}
use Rattle.ox_http.proofs.writer.put_some_encoding.Goals as goal

pub returns : goal.returns
returns c =
    Puts-most (Puts-then (Puts-then c.put.ensures c.put-2.ensures) c.put-3.ensures) _ (omega arith)
