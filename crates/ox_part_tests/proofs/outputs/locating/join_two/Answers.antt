use Rattle.std.proofs.Common.{◌+◌, ◌*◌, arith}
use Rattle.ox_part_tests.proofs.Rising.{joined, on_value}
use Rattle.ox_part_tests.proofs.outputs.locating.join_two.Goals as goal

pub returns-clause-within : goal.returns-clause-within
returns-clause-within g c =
    let number = c.args.number in
    let first = 3 * c.from.result in
    joined 0 (3 * number) first (first + 2) (3 * (number + 1)) c.args.sats.now c.run-two.result c.join.new.self
    (on_value c.join.result c.expect.result c.expect.ensures c.join.ensures.ok) c.requires.within c.run-two.ensures.within
    (omega arith) (omega (arith, c.from.ensures)) (omega arith) (omega (arith, c.from.ensures))
