use Rattle.std.proofs.Common.{arith}
use Rattle.ox_sat.proofs.Letters.{letter_read, letters_more_read, letter_fits}
use Rattle.ox_sat.proofs.spellings.read_letters.Goals as goal

pub overflow_mul-value : goal.overflow_mul-value
overflow_mul-value c = omega (arith, (letter_fits c.loop-letter.letter-index c.loop-letter.value (omega arith) c.loop-letter.invariant.most).1)

pub overflow_add-value : goal.overflow_add-value
overflow_add-value c = omega (arith, (letter_fits c.loop-letter.letter-index c.loop-letter.value (omega arith) c.loop-letter.invariant.most).1, c.from.ensures, c.if-not-is_ascii_lowercase.ensures.cases)

pub overflow_add-value-in-loop-letter : goal.overflow_add-value-in-loop-letter
overflow_add-value-in-loop-letter c = omega (arith, (letter_fits c.loop-letter.letter-index c.loop-letter.value (omega arith) c.loop-letter.invariant.most).1, c.from.ensures, c.if-not-is_ascii_lowercase.ensures.cases)

pub loop-letter-preserved : goal.loop-letter-preserved
loop-letter-preserved c =
    let letter = c.if-not-is_ascii_lowercase.ensures.cases in
    record {
      value = rw c.from.ensures (letter_read c.args.text.now c.loop-letter.letter-index c.loop-letter.value c.loop-letter-test.true letter c.loop-letter.invariant.value);
      most = omega (arith, (letter_fits c.loop-letter.letter-index c.loop-letter.value (omega arith) c.loop-letter.invariant.most).0, c.from.ensures, letter);
      letters = letters_more_read c.args.text.now c.loop-letter.letter-index c.loop-letter-test.true letter c.loop-letter.invariant.letters;
    }
