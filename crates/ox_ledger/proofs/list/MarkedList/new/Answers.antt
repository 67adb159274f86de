use Rattle.std.specs.Prelude.{None, slice_get}
use Rattle.ox_ledger.proofs.ListLemmas.{listed_none}
use Rattle.ox_ledger.proofs.list.MarkedList.new.Goals as goal

pub returns : goal.returns
returns g c = λ i. record {
  now = listed_none (slice_get c.new.result.items) i;
  mark = None;
}
