use Rattle.ox_address.proofs.Takes.{with-next}
use Rattle.ox_address.proofs.reading.with_letters.Goals as goal

pub loop-letter-preserved : goal.loop-letter-preserved
loop-letter-preserved c =
    let next = with-next c.args.is_capital c.args.letters.now c.loop-letter.letter-index c.in_ok-symbol_at.field-0 c.args.sum
    c.loop-letter.sum c.with_value-sum.result c.loop-letter-test.true c.in_ok-symbol_at.ensures.0 c.in_ok-symbol_at.ensures.1
    c.loop-letter.invariant.symbols c.loop-letter.invariant.checked c.with_value-sum.ensures.value in
    record { symbols = next.0; checked = next.1; bounded = c.with_value-sum.ensures.bounded }
