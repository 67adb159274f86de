use Rattle.std.proofs.Common.{arith}
use Rattle.ox_bytes.proofs.Laws.{size_law}
use Rattle.ox_bytes.proofs.cursor.compact_front.Goals as goal

pub returns-in-Ok-clause-taken : goal.returns-in-Ok-clause-taken
returns-in-Ok-clause-taken c = (size_law.takes c.args.bytes.now (c.in-Ok.number, c.in-Ok.left.now) (λ i. omega (arith, c.type_inv.bytes i)) c.in-Ok.ensures).0.parts
