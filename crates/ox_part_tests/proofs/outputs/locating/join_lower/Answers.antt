use Rattle.std.proofs.Common.{◌+◌, ◌^◌, arith}
use Rattle.ox_part_tests.proofs.Rising.{joined_lower, on_value}
use Rattle.ox_part_tests.proofs.outputs.locating.join_lower.Goals as goal

pub returns-clause-within : goal.returns-clause-within
returns-clause-within g c =
    let first = c.args.first in
    joined_lower first (first + 2) (first + 2) (2 ^ 36) c.args.sats.now c.run-two.result c.join.new.self
    (on_value c.join.result c.expect.result c.expect.ensures c.join.ensures.ok) c.requires.within c.run-two.ensures.within
    (omega arith) (omega arith) c.requires.low
