use Rattle.std.proofs.Common.{arith}
use Rattle.ox_desk.proofs.Escapes.{plain_hash}
use Rattle.ox_desk.proofs.plain.hash_is_plain.Goals as goal

pub returns : goal.returns
returns c = plain_hash c.args._hash.now (λ i. omega (arith, c.type_inv._hash i))
