use Rattle.std.proofs.Common.{arith}
use Rattle.ox_ledger.proofs.table.one_more.Goals as goal

pub overflow_add-result : goal.overflow_add-result
overflow_add-result c = omega (arith, c.requires, c.cap_of-cap.ensures, c.cap_of-cap.type_inv)
