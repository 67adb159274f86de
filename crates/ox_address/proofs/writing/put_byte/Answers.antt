use Rattle.std.proofs.Common.{ℕ, ◌+◌, ◌*◌}
use Rattle.ox_address.proofs.Writes.{packs-with}
use Rattle.ox_address.proofs.writing.put_byte.Goals as goal

pub returns-clause-packs : goal.returns-clause-packs
returns-clause-packs c = λ hrp front before whole total packs.
    let n : ℕ = whole * 256 + c.args.byte in
    let t : ℕ = total + 8 in
    c.put_group-2.ensures.packs hrp front before n t
    (c.put_group.ensures.packs hrp front before n t
    (packs-with hrp front before c.args.into.now c.args.text.now.len c.args.text.now.sum whole total
    c.args.bits.now.value c.args.bits.now.count 8 c.args.byte c.with-more.result.value c.with-more.result.count
    c.with-more.ensures.value c.with-more.ensures.count packs))
