use Rattle.std.proofs.Common.{◌≡◌, ◌≤◌, ◌+◌, ◌++◌, length}
use Rattle.ox_gated.specs.Gate.{chain_of}
use Rattle.ox_gated.proofs.records.walk_on.Given as goal

abbrev pub invariant-gates : goal.invariant-gates
invariant-gates l = record {
  so_far : record { records = l.records ++ (chain_of l.fn.head l.place l.rest).records; end = (chain_of l.fn.head l.place l.rest).end } ≡ chain_of l.fn.head l.fn.place l.fn.bytes;
  within : l.place + length l.rest ≤ l.fn.place + length l.fn.bytes;
}

abbrev pub decreases-gates : goal.decreases-gates
decreases-gates l = length l.rest
