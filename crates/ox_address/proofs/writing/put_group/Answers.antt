use Rattle.ox_address.proofs.Writes.{packs-take}
use Rattle.ox_address.proofs.writing.put_group.Goals as goal

pub returns-then-bits-ge5-clause-packs : goal.returns-then-bits-ge5-clause-packs
returns-then-bits-ge5-clause-packs c = λ hrp front before whole total packs.
    packs-take hrp front before c.args.into.now c.put.new.into c.args.text.now.len c.args.text.now.sum
    c.put.new.text.len c.put.new.text.sum whole total c.args.bits.now.value c.args.bits.now.count
    c.take_front-group.result c.take_front-group.new.self.value c.take_front-group.new.self.count
    c.take_front-group.ensures.count c.take_front-group.ensures.split c.take_front-group.ensures.narrow
    (λ symbols. c.put.ensures.wrote hrp symbols before) (λ symbols. c.put.ensures.sum hrp symbols) packs
