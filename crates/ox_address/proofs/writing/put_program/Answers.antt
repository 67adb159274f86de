use Rattle.std.proofs.Common.{◌≡◌, ℕ, ◌*◌, ◌^◌, take, ap, ◌∙◌, refl, arith}
use Rattle.ox_address.specs.Digits.{number}
use Rattle.ox_address.proofs.Writes.{packs-start, packs-more}
use Rattle.ox_address.proofs.writing.put_program.Goals as goal

pub loop-byte-init : goal.loop-byte-init
loop-byte-init c =
    let one : 2 ^ c.none-bits.result.count ≡ 1 = ap (λ n. 2 ^ n) c.none-bits.ensures.count ∙ refl in
    record {
      few = omega (arith, c.none-bits.ensures.count);
      within = omega (arith, c.none-bits.ensures.value, one);
      room = c.requires.room;
      bounded = c.requires.bounded;
      packs = λ hrp front before stands.
          packs-start hrp front before c.args.into.now c.args.text.now.len c.args.text.now.sum
          c.none-bits.result.value c.none-bits.result.count c.none-bits.ensures.value c.none-bits.ensures.count stands;
    }

pub loop-byte-preserved : goal.loop-byte-preserved
loop-byte-preserved c =
    let i : ℕ = c.loop-byte.byte-index in
    record {
      few = c.put_byte.ensures.few;
      within = c.put_byte.ensures.within;
      room = omega (arith, c.put_byte.ensures.len, c.loop-byte.invariant.room);
      bounded = c.put_byte.ensures.bounded;
      packs = λ hrp front before stands.
          packs-more hrp front before c.put_byte.new.into c.args.program.now c.put_byte.new.text.len c.put_byte.new.text.sum i
          c.put_byte.new.bits.value c.put_byte.new.bits.count c.loop-byte-test.true
          (c.put_byte.ensures.packs hrp front before (number 256 (take i c.args.program.now)) (8 * i)
          (c.loop-byte.invariant.packs hrp front before stands));
    }
