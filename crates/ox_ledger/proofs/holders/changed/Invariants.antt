use Rattle.std.proofs.Common.{◌≡◌, ◌++◌, drop}
use Rattle.std.specs.Map.{keys_of}
use Rattle.ox_ledger.proofs.GoneLemmas.{gone_among, value_now, value_then}
use Rattle.ox_ledger.proofs.holders.changed.Given as goal

abbrev pub invariant-loop-place : goal.invariant-loop-place
invariant-loop-place l = record {
  gone : l.gone.items ++ gone_among (value_then l.holders) (value_now l.holders) (drop l.place (keys_of l.change-items)) ≡ gone_among (value_then l.holders) (value_now l.holders) (keys_of l.change-items);
  came : l.came.items ++ gone_among (value_now l.holders) (value_then l.holders) (drop l.place (keys_of l.change-items)) ≡ gone_among (value_now l.holders) (value_then l.holders) (keys_of l.change-items);
}
