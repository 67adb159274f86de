use Rattle.std.proofs.Common.{◌∙◌, sym, ap, length}
use Rattle.std.specs.Prelude.{slice_get}
use Rattle.ox_ledger.proofs.ListLemmas.{length-listed}
use Rattle.ox_ledger.proofs.list.MarkedList.len.Goals as goal

pub returns : goal.returns
returns g c = sym (length-listed (slice_get c.self.inside.values.items) c.self.inside.len c.self.invariant.0) ∙ ap (λ v. length v.now) c.self.view_is
