use Rattle.std.proofs.Common.{◌∙◌, ◌-◌, ap, arith, sym}
use Rattle.ox_block.specs.declared.block.OutPoint.{OutPoint}
use Rattle.ox_rules.specs.declared.rows.OutRow.{OutRow}
use Rattle.ox_outputs.specs.Table.{rows_in}
use Rattle.ox_outputs.proofs.TurnLemmas.{taken_more}
use Rattle.ox_outputs.proofs.outputs.Outputs.take_out.Goals as goal

pub loop-left-preserved : goal.loop-left-preserved
loop-left-preserved c = record {
  within = omega (arith, c.loop-left.invariant.within);
  rows = taken_more (rows_in c.args.self.now) (rows_in c.loop-left.self) (rows_in c.take_one.new.self) c.as_slice-list.result.now c.loop-left.left (c.loop-left.left - 1) c.index-list-left.result _ (omega (arith, c.loop-left-test.true))
      (omega (arith, c.loop-left-test.true, c.loop-left.invariant.within)) c.index-list-left.is (ap (λ (e : OutPoint × OutRow). e.0) (sym c.index-list-left.is)) c.loop-left.invariant.rows c.in_ok-take_one.ensures.ok;
  mark = c.take_one.ensures.mark ∙ c.loop-left.invariant.mark;
}
