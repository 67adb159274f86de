use Rattle.std.proofs.Common.{◌≡◌, ◌≢◌, ◌++◌, ◌≤◌, length}
use Rattle.ox_envelope.specs.Envelope.{envelopes_among}
use Rattle.ox_envelope.proofs.SearchLemmas.{read_so_far}
use Rattle.ox_envelope.specs.declared.search.Opened.TheVariants.{Whole}
use Rattle.ox_envelope.proofs.search.find_opening.Given as goal

abbrev pub invariant-loop-item : goal.invariant-loop-item
invariant-loop-item l = record {
  all : envelopes_among (read_so_far l.opened ++ l.items.left) ≡ envelopes_among l.fn.items.left;
  part : l.opened ≢ Whole;
  fewer : length l.items.left ≤ length l.fn.items.left;
  ends : l.items.ends_cut ≡ l.fn.items.ends_cut;
}
