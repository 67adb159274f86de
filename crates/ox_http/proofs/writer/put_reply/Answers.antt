-- The head is put, and then the body.
use Rattle.std.proofs.Common.{arith}
use Rattle.ox_http.specs.Written.{written}
use Rattle.ox_http.proofs.Putting.{Puts-then, Puts-most}
use Rattle.ox_http.proofs.writer.put_reply.Goals as goal

pub returns : goal.returns
unfolding written
returns c = Puts-most (Puts-then c.put_head.ensures c.put.ensures) _ (omega arith)
