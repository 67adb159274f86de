use Rattle.std.proofs.Common.{sym, ap, Some}
use Rattle.std.specs.Prelude.{slice_get}
use Rattle.ox_ledger.proofs.KeptLemmas.{some_within}
use Rattle.ox_ledger.proofs.ListLemmas.{get_value, within_below}
use Rattle.ox_ledger.proofs.list.MarkedList.get.Goals as goal

pub get-requires : goal.get-requires
get-requires g c =
    let at = slice_get c.self.inside.values.items in
    some_within c.self.inside.values.items c.args.place (c.self.invariant.0 c.args.place (within_below at c.self.inside.len c.args.place c.args.self.now.now c.self.invariant.0 (ap (λ v. v.now) c.self.view_is) c.requires))

pub returns : goal.returns
returns g c =
    get_value (slice_get c.self.inside.values.items) c.self.inside.len c.args.place c.args.self.now.now (Some c.get.result.now) c.self.invariant.0 (ap (λ v. v.now) c.self.view_is) c.requires (sym c.get.ensures)
