use Rattle.std.proofs.Common.{arith}
use Rattle.ox_block.specs.Hashes.{next_row}
use Rattle.ox_block.proofs.RowsOfHashes.{pair_put, last_put, none_left}
use Rattle.ox_block.proofs.roots.row_above.Goals as goal

pub returns-in-empty : goal.returns-in-empty
returns-in-empty c = none_left c.loop-rest.above.items c.loop-rest.rest.now (next_row c.args.row.now) (omega arith) c.loop-rest.invariant

pub returns-in-len1 : goal.returns-in-len1
returns-in-len1 c = rw c.in_ok-push-in-len1.ensures.items (last_put c.loop-rest.above.items c.loop-rest.rest.now (next_row c.args.row.now) c.hash_pair.result (omega arith) (omega arith) c.hash_pair.ensures c.loop-rest.invariant)

pub loop-rest-preserved : goal.loop-rest-preserved
loop-rest-preserved c = rw c.in_ok-push-in-len2-up.ensures.items (pair_put c.loop-rest.above.items c.loop-rest.rest.now (next_row c.args.row.now) c.hash_pair-in-len2-up.result (omega arith) c.hash_pair-in-len2-up.ensures c.loop-rest.invariant)
