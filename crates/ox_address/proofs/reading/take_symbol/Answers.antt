use Rattle.std.proofs.Common.{◌+◌, ◌*◌, arith}
use Rattle.ox_address.proofs.Takes.{unpacks-with, unpacks-take}
use Rattle.ox_address.proofs.reading.take_symbol.Goals as goal

pub returns-then-bits-ge8-clause-unpacks : goal.returns-then-bits-ge8-clause-unpacks
returns-then-bits-ge8-clause-unpacks c = λ head before whole total unpacks.
    unpacks-take head before c.args.script.now c.args.len.now (whole * 32 + c.args.symbol) (total + 5)
    c.with-more.result.value c.with-more.result.count c.take_front-byte.result
    c.take_front-byte.new.self.value c.take_front-byte.new.self.count (omega arith)
    c.take_front-byte.ensures.count c.take_front-byte.ensures.split c.take_front-byte.ensures.narrow
    (unpacks-with head before c.args.script.now c.args.len.now whole total c.args.bits.now.value c.args.bits.now.count
    5 c.args.symbol c.with-more.result.value c.with-more.result.count c.with-more.ensures.value c.with-more.ensures.count unpacks)

pub returns-else-bits-ge8-clause-unpacks : goal.returns-else-bits-ge8-clause-unpacks
returns-else-bits-ge8-clause-unpacks c = λ head before whole total unpacks.
    unpacks-with head before c.args.script.now c.args.len.now whole total c.args.bits.now.value c.args.bits.now.count
    5 c.args.symbol c.with-more.result.value c.with-more.result.count c.with-more.ensures.value c.with-more.ensures.count unpacks
