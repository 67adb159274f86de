use Rattle.std.proofs.Common.{◌≡◌, ◌≤◌, length}
use Rattle.ox_envelope.specs.Envelope.{no_pushes}
use Rattle.ox_envelope.specs.Opening.{envelopes_within}
use Rattle.ox_envelope.proofs.search.read_envelope.Given as goal

abbrev pub invariant-loop-item : goal.invariant-loop-item
invariant-loop-item l = record {
  all : envelopes_within l.envelope l.items.left ≡ envelopes_within no_pushes l.fn.items.left;
  fewer : length l.items.left ≤ length l.fn.items.left;
  ends : l.items.ends_cut ≡ l.fn.items.ends_cut;
}
