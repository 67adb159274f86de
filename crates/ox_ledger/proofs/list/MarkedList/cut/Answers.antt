use Rattle.std.proofs.Common.{◌∙◌, ap, take}
use Rattle.std.specs.Prelude.{slice_get}
use Rattle.ox_ledger.proofs.ListLemmas.{full_below, listed_cut, within}
use Rattle.ox_ledger.proofs.list.MarkedList.cut.Goals as goal

pub invariant_of-self : goal.invariant_of-self
invariant_of-self g c =
    let at = slice_get c.self.inside.values.items in (
      full_below at c.self.inside.len c.args.len (within at c.self.inside.len c.args.len c.args.self.now.now c.self.invariant.0 (ap (λ v. v.now) c.self.view_is) c.requires) c.self.invariant.0,
      c.self.invariant.1,
    )

pub returns : goal.returns
returns g c =
    let at = slice_get c.self.inside.values.items in
    let shown = ap (λ v. v.now) c.self.view_is in
    λ i. record {
      now =
          (listed_cut at c.self.inside.len c.args.len c.self.invariant.0 (within at c.self.inside.len c.args.len c.args.self.now.now c.self.invariant.0 shown c.requires)
          ∙ ap (take c.args.len) shown) i;
      mark = ap (λ v. v.mark) c.self.view_is i;
    }
