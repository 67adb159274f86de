use Rattle.std.proofs.Common.{◌∙◌, sym, ap, arith, Some, option_copied}
use Rattle.ox_block.specs.Commitment.{commits}
use Rattle.ox_block.proofs.Commitments.{commits_long, last_is, last_was}
use Rattle.ox_block.proofs.commitment.last_commitment.Goals as goal
use Rattle.ox_block.proofs.commitment.last_commitment.Goals.{then-commits, else-commits}

pub loop-output-preserved : goal.loop-output-preserved
loop-output-preserved c =
    let script = c.as_slice-script.ensures in
    let outputs = c.args.outputs.now in
    elim c.if-commits.branch [
      | then-commits w ↦
          let does = sym c.commits.ensures ∙ w.if-commits.true in record {
            last = ap option_copied w.last-is ∙ ap Some script ∙ last_is outputs c.loop-output.output-index c.output-item.result (omega arith) c.output-item.is (ap commits (sym script) ∙ does);
            long = rw w.last-is (commits_long c.as_slice-script.result.now does);
          }
      | else-commits w ↦
          let does = sym c.commits.ensures ∙ w.if-commits.false in record {
            last = ap option_copied w.last-is ∙ last_was outputs c.loop-output.output-index c.output-item.result (option_copied c.loop-output.last) (omega arith) c.output-item.is (ap commits (sym script) ∙ does) c.loop-output.invariant.last;
            long = rw w.last-is c.loop-output.invariant.long;
          }
    ]
