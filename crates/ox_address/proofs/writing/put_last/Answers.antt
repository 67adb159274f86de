use Rattle.std.proofs.Common.{◌≡◌, ◌<◌, ◌^◌, ◌-◌, ℕ, ◌+◌, ◌*◌, length, arith, refl}
use Rattle.ox_address.specs.Digits.{number}
use Rattle.ox_address.proofs.Writes.{packs-with, packs-end}
use Rattle.ox_address.proofs.writing.put_last.Goals as goal

pub returns-then-bits-gt0-clause-wrote : goal.returns-then-bits-gt0-clause-wrote
returns-then-bits-gt0-clause-wrote c = λ hrp front before bytes packs.
    let w : ℕ = 5 - c.args.bits.count in
    let n : ℕ = number 256 bytes * 2 ^ w + 0 in
    let t : ℕ = 8 * length bytes + w in
    let few : w < 5 = omega arith in
    packs-end hrp front before c.put_group.new.into bytes c.put_group.new.text.len c.put_group.new.text.sum n t
    c.put_group.new.bits.value c.put_group.new.bits.count w few (omega arith) refl (omega arith) c.put_group.ensures.within
    (c.put_group.ensures.packs hrp front before n t
    (packs-with hrp front before c.args.into.now c.args.text.now.len c.args.text.now.sum (number 256 bytes) (8 * length bytes)
    c.args.bits.value c.args.bits.count w 0 c.with-full.result.value c.with-full.result.count
    c.with-full.ensures.value c.with-full.ensures.count packs))

pub returns-else-bits-gt0-clause-wrote : goal.returns-else-bits-gt0-clause-wrote
returns-else-bits-gt0-clause-wrote c = λ hrp front before bytes packs.
    let none : c.args.bits.count ≡ 0 = omega arith in
    packs-end hrp front before c.args.into.now bytes c.args.text.now.len c.args.text.now.sum (number 256 bytes) (8 * length bytes)
    c.args.bits.value c.args.bits.count 0 (omega arith) (omega arith) (omega arith) none c.requires.within packs
