use Rattle.std.proofs.Common.{◌<◌, ℕ, List, length, take, arith, ◌*◌}
use Rattle.std.proofs.lemmas.List.{length-take-le}
use Rattle.ox_address.specs.Digits.{number}
use Rattle.ox_address.specs.Passes.{values_of}
use Rattle.ox_address.proofs.Takes.{took-start, took-next, took-room}
use Rattle.ox_address.proofs.reading.take_groups.Goals as goal

pub loop-letter-init : goal.loop-letter-init
loop-letter-init c =
    took-start c.args.is_capital c.args.sum c.none-bits.result.value c.none-bits.result.count c.args.script.now c.requires.bounded
    (omega arith) c.none-bits.ensures.value c.none-bits.ensures.count

pub take_symbol-requires-clause-room : goal.take_symbol-requires-clause-room
take_symbol-requires-clause-room c =
    let i : ℕ = c.loop-letter.letter-index in
    let short : length (take i c.args.letters.now) < 64 = omega (arith, length-take-le i c.args.letters.now) in
    took-room c.args.is_capital (take i c.args.letters.now) c.args.sum c.args.script.now c.loop-letter.script c.loop-letter.len
    c.loop-letter.bits.value c.loop-letter.bits.count c.loop-letter.sum short (omega arith) c.loop-letter.invariant

pub loop-letter-preserved : goal.loop-letter-preserved
loop-letter-preserved c =
    let i : ℕ = c.loop-letter.letter-index in
    let xs : List ℕ = take i c.args.letters.now in
    took-next c.args.is_capital c.args.letters.now i c.in_ok-symbol.symbol c.args.sum c.args.script.now c.loop-letter.script
    c.take_symbol.new.script c.loop-letter.len c.loop-letter.bits.value c.loop-letter.bits.count c.loop-letter.sum
    c.take_symbol.new.len c.take_symbol.new.bits.value c.take_symbol.new.bits.count c.with_value-sum.result
    c.loop-letter-test.true c.in_ok-symbol.ensures.0 c.in_ok-symbol.ensures.1 c.loop-letter.invariant
    (c.take_symbol.ensures.unpacks (take 2 c.args.script.now) c.args.script.now (number 32 (values_of c.args.is_capital xs)) (5 * length xs)
    c.loop-letter.invariant.unpacks)
    c.take_symbol.ensures.few c.take_symbol.ensures.within c.with_value-sum.ensures.value c.with_value-sum.ensures.bounded
