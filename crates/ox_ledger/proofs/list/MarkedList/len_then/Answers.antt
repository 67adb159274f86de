use Rattle.std.proofs.Common.{◌≡◌, ap, subst, length}
use Rattle.std.specs.Option.{IfSome}
use Rattle.ox_ledger.specs.Marks.{stood_in}
use Rattle.ox_ledger.proofs.ListLemmas.{then_length}
use Rattle.ox_ledger.proofs.list.MarkedList.len_then.Goals as goal

pub returns : goal.returns
returns g c =
    subst (λ m. IfSome m (λ list. c.unwrap_or.result ≡ length list)) (ap (λ v. v.mark) c.self.view_is)
    (then_length (stood_in c.self.inside.values) c.self.inside.len_then c.unwrap_or.result c.unwrap_or.ensures c.self.invariant.1)
