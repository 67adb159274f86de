use Rattle.std.proofs.Common.{◌/◌, ◌%◌, arith}
use Rattle.ox_inscribe.specs.Signed.{is_cursed}
use Rattle.ox_inscribe.proofs.CursedLaws.{bit_dropped, word_dropped}
use Rattle.ox_inscribe.proofs.cursed_bits.Cursed.forget.Goals as goal

pub returns-then-place-eq0-clause-rows : goal.returns-then-place-eq0-clause-rows
returns-then-place-eq0-clause-rows c = λ rows noted is.
    word_dropped (is_cursed c.args.self.now.jubilee) rows c.args.row.now _ _ _ _ (c.args.place / 64) noted (omega (arith, is, c.if-place-eq0.true)) c.truncate.ensures.items c.truncate-then-place-eq0.ensures.items

pub returns-then-index-len-clause-rows : goal.returns-then-index-len-clause-rows
returns-then-index-len-clause-rows c = λ rows noted is.
    let place = c.args.place in
    bit_dropped (is_cursed c.args.self.now.jubilee) rows c.args.row.now _ _ (place / 64) (place % 64) c.index.result.now c.bits_below.result noted (omega (arith, is)) (omega arith) (omega (arith, c.if-place-eq0.false)) (omega (arith, c.if-index-len.true)) c.index.ensures c.bits_below.ensures
