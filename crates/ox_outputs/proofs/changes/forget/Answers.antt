use Rattle.std.proofs.Common.{◌∙◌}
use Rattle.ox_outputs.proofs.SlotLemmas.{rows_still, tidied_step}
use Rattle.ox_outputs.proofs.changes.forget.Goals as goal

pub loop-spot-preserved : goal.loop-spot-preserved
loop-spot-preserved c = record {
  rows = c.tidy.ensures.rows ∙ c.loop-spot.invariant.rows;
  filled = rows_still c.args.slots.now c.loop-spot.slots c.tidy.new.self c.loop-spot.invariant.rows c.loop-spot.invariant.filled c.tidy.ensures.filled;
  tidied = λ p.
      tidied_step c.loop-spot.changed.items c.pop.new.self.items c.in-Some.spot c.loop-spot.slots c.tidy.new.self c.in-Some.ensures.items c.tidy.ensures.here c.tidy.ensures.others p
      ∙ c.loop-spot.invariant.tidied p;
}
