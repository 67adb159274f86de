use Rattle.std.proofs.Common.{◌∙◌, ap, sym, Some}
use Rattle.ox_runestone.specs.Payload.{is_stone}
use Rattle.ox_ledger.proofs.ArtifactLemmas.{no_stone, stone_here, stone_later}
use Rattle.ox_ledger.proofs.artifact.stone_in.Goals as goal

pub returns-then-is_stone-clause-first : goal.returns-then-is_stone-clause-first
returns-then-is_stone-clause-first c =
    ap Some c.as_slice-script.ensures
    ∙ stone_here c.args.outputs.now c.loop-output.output-index c.output-item.result c.loop-output-test.true c.output-item.is
    (ap is_stone (sym c.as_slice-script.ensures) ∙ sym c.is_stone.ensures ∙ c.if-is_stone.true) c.loop-output.invariant

pub loop-output-preserved : goal.loop-output-preserved
loop-output-preserved c =
    stone_later c.args.outputs.now c.loop-output.output-index c.output-item.result c.loop-output-test.true c.output-item.is
    (ap is_stone (sym c.as_slice-script.ensures) ∙ sym c.is_stone.ensures ∙ c.if-is_stone.false) c.loop-output.invariant

pub returns-clause-first : goal.returns-clause-first
returns-clause-first c = no_stone c.args.outputs.now c.loop-output.output-index c.loop-output-test.false c.loop-output.invariant
