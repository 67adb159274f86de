use Rattle.std.proofs.Common.{◌≡◌, ◌++◌, length}
use Rattle.ox_script.specs.Script.{items_of, is_cut}
use Rattle.ox_envelope.specs.Envelope.{envelopes_among}
use Rattle.ox_envelope.proofs.search.envelopes_of.Given as goal

abbrev pub invariant-loop-items : goal.invariant-loop-items
invariant-loop-items l = record {
  all : l.found ++ envelopes_among l.items.left ≡ envelopes_among (items_of l.script);
  ends : l.items.ends_cut ≡ is_cut l.script;
}

abbrev pub decreases-loop-items : goal.decreases-loop-items
decreases-loop-items l = length l.items.left
