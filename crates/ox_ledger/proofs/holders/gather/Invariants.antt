use Rattle.std.proofs.Common.{◌≡◌, drop, []}
use Rattle.ox_ledger.specs.Runes.{brought_by}
use Rattle.ox_ledger.specs.Shown.{held_in, held_then}
use Rattle.ox_ledger.proofs.HolderLemmas.{Gathers}
use Rattle.ox_ledger.proofs.holders.gather.Given as goal

abbrev pub invariant-loop-input : goal.invariant-loop-input
invariant-loop-input l = record {
  gathers : Gathers (brought_by l.fn.inputs (held_in l.fn.holders) []) (drop l.input-index l.inputs) (held_in l.holders) l.pool;
  mark : held_then l.holders ≡ held_then l.fn.holders;
}
