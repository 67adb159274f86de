use Rattle.std.proofs.Common.{◌∙◌, ◌^◌, take_all}
use Rattle.ox_outputs.proofs.OffsetLemmas.{rising_from, below_from}
use Rattle.ox_outputs.proofs.cell.copy_from.Goals as goal

pub invariant_of-result : goal.invariant_of-result
invariant_of-result c =
    let is = c.loop-start.invariant.counted ∙ take_all c.loop-start.start-index c.args.starts.now c.loop-start-test.false in
    (rising_from c.args.base c.loop-start.counted.items c.args.starts.now is c.requires.rising, below_from c.args.base c.loop-start.counted.items c.args.starts.now (2 ^ 32) is c.requires.low)
