use Rattle.std.proofs.Common.{◌^◌, arith}
use Rattle.std.specs.Int.{w64}
use Rattle.ox_bytes.proofs.Laws.{number_law, wide64, number_short}
use Rattle.ox_bytes.proofs.cursor.u64_front.Goals as goal

pub returns-in-Ok-clause-taken : goal.returns-in-Ok-clause-taken
returns-in-Ok-clause-taken c = ((number_law w64 (2 ^ 64) wide64).takes c.args.bytes.now (c.in-Ok.number, c.in-Ok.left.now) (λ i. omega (arith, c.type_inv.bytes i)) c.in-Ok.ensures).0.parts

pub returns-in-Err-clause-short : goal.returns-in-Err-clause-short
returns-in-Err-clause-short c = number_short w64 c.args.bytes.now c.in-Err.field-0.left c.in-Err.ensures
