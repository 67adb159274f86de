use Rattle.std.proofs.Common.{◌∙◌, arith, ap, subst, sym}
use Rattle.std.specs.Prelude.{slice_get, slice_set}
use Rattle.ox_ledger.specs.Marks.{IsFull, Standing, stood_in}
use Rattle.ox_ledger.proofs.HolderLemmas.{on_ok}
use Rattle.ox_ledger.proofs.KeptLemmas.{either, some_within}
use Rattle.ox_ledger.proofs.ListLemmas.{listed_put, put_full, then_full, then_same, within_below}
use Rattle.ox_ledger.proofs.list.MarkedList.set.Goals as goal

pub put-requires : goal.put-requires
put-requires g c =
    let values = c.self.inside.values in
    let less = within_below (slice_get values.items) c.self.inside.len c.args.place c.args.self.now.now c.self.invariant.0 (ap (λ v. v.now) c.self.view_is) c.requires in
    let there = some_within values.items c.args.place (c.self.invariant.0 c.args.place less) in
    omega (arith, there)

pub invariant_of-self : goal.invariant_of-self
invariant_of-self g c =
    let old = c.self.inside.values in
    let new = c.put.new.self in (
      either c.put.result (λ put. put_full (slice_get old.items) (slice_get new.items) c.args.place c.self.inside.len c.args.value put c.self.invariant.0)
          (λ same. subst (λ (values : Standing g.row.T.Denot). IsFull (slice_get values.items) c.self.inside.len) (sym same) c.self.invariant.0) c.put.ensures.items c.put.ensures.err,
      then_full (stood_in old) (stood_in new) c.self.inside.len_then c.unwrap_or-end.result c.unwrap_or-end.ensures c.put.ensures.stood c.self.invariant.1,
    )

pub returns-clause-ok : goal.returns-clause-ok
returns-clause-ok g c =
    let shown = ap (λ v. v.now) c.self.view_is in
    let old = c.self.inside.values in
    let new = c.put.new.self in
    on_ok c.put.result (λ put i. record {
      now =
          (listed_put (slice_get old.items) (slice_get new.items) c.args.place c.self.inside.len c.args.value put c.self.invariant.0
          (within_below (slice_get old.items) c.self.inside.len c.args.place c.args.self.now.now c.self.invariant.0 shown c.requires)
          ∙ ap (λ l. slice_set l c.args.place c.args.value) shown) i;
      mark = (then_same (stood_in old) (stood_in new) c.self.inside.len_then c.unwrap_or-end.result c.unwrap_or-end.ensures c.put.ensures.stood c.self.invariant.1 ∙ ap (λ v. v.mark) c.self.view_is) i;
    }) c.put.ensures.items
