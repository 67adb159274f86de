-- A digit more.
use Rattle.std.proofs.Common.{arith, ◌∙◌}
use Rattle.ox_http.proofs.Digits.{cap_step}
use Rattle.ox_http.proofs.reader.capped_length.Goals as goal

pub loop-digit-preserved : goal.loop-digit-preserved
loop-digit-preserved c =
    c.min-number.ensures
    ∙ cap_step c.args.text.now c.loop-digit.digit-index c.loop-digit.number (omega arith)
    c.requires c.loop-digit.invariant
