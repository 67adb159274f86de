use Rattle.std.proofs.Common.{◌≡◌, ◌≤◌, length, take, None, option_copied}
use Rattle.std.specs.Prelude.{IfSome}
use Rattle.std.specs.List.{last_or}
use Rattle.ox_block.specs.Commitment.{commitments_in}
use Rattle.ox_block.proofs.commitment.last_commitment.Given as goal

-- the last one so far
abbrev pub invariant-loop-output : goal.invariant-loop-output
invariant-loop-output l = record {
  last : option_copied l.last ≡ last_or None (commitments_in (take l.output-index l.outputs));
  long : IfSome l.last (λ script. 38 ≤ length script.now);
}
