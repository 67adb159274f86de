use Rattle.std.specs.Slice.Iter.{iter_rest}
use Rattle.std.specs.Iterator.Adapters.{rev_source}
use Rattle.ox_transfer.proofs.Deals.{Backward}
use Rattle.ox_transfer.proofs.deal.deal_out.Given as goal

-- the outputs that are left have the front of the list
abbrev pub invariant-loop-output : goal.invariant-loop-output
invariant-loop-output l = Backward l.outputs (iter_rest (rev_source l.output-iterator)) l.fn.sats l.sats l.place l.total l.parts.items
