use Rattle.std.proofs.Common.{◌≡◌, ◌∙◌, arith}
use Rattle.std.specs.Prelude.{◌&&◌}
use Rattle.hex.proofs.Pairs.{decode_done}
use Rattle.ox_feed.proofs.PairsOfDigits.{decodes_more}
use Rattle.ox_feed.proofs.digits.decode_into.Goals as goal
use Rattle.ox_feed.proofs.digits.decode_into.Goals.{then-all, else-all}

pub loop-i-preserved : goal.loop-i-preserved
loop-i-preserved c =
    let good = c.byte_of-byte.result.1 in
    let both : c.if-all.all ≡ (c.loop-i.all && good) = elim c.if-all.branch [
      | then-all w ↦ rw w.if-all.true w.all-is
      | else-all w ↦ rw w.if-all.false (w.all-is ∙ w.if-all.false)
    ] in
    decodes_more c.args.digits.now c.loop-i.bytes c.loop-i.i c.byte_of-byte.result.0 c.loop-i.all good c.if-all.all (omega arith) (omega arith)
    c.loop-i.invariant c.byte_of-byte.ensures.good c.byte_of-byte.ensures.bad both

pub returns-clause-good : goal.returns-clause-good
returns-clause-good c = λ all. decode_done c.args.digits.now c.loop-i.bytes c.loop-i.i (omega arith) (omega arith) (c.loop-i.invariant.0 all)
