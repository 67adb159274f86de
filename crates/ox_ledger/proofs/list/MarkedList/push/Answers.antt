use Rattle.std.proofs.Common.{◌∙◌, ◌++◌, ◌∷◌, [], ap}
use Rattle.std.specs.Prelude.{slice_get}
use Rattle.ox_ledger.specs.Marks.{stood_in}
use Rattle.ox_ledger.proofs.KeptLemmas.{full_within}
use Rattle.ox_ledger.proofs.ListLemmas.{listed_push, push_full, then_full, then_same}
use Rattle.ox_ledger.proofs.list.MarkedList.push.Goals as goal

pub put-requires : goal.put-requires
put-requires g c = full_within c.self.inside.values.items c.self.inside.len c.self.invariant.0

pub invariant_of-self-2 : goal.invariant_of-self-2
invariant_of-self-2 g c =
    let old = c.self.inside.values in
    let new = c.put.new.self in (
      push_full (slice_get old.items) (slice_get new.items) c.self.inside.len c.args.value c.in_ok-put.ensures.items c.self.invariant.0,
      then_full (stood_in old) (stood_in new) c.self.inside.len_then c.unwrap_or-end.result c.unwrap_or-end.ensures c.put.ensures.stood c.self.invariant.1,
    )

pub returns-clause-ok : goal.returns-clause-ok
returns-clause-ok g c =
    let shown = ap (λ v. v.now) c.self.view_is in
    let old = c.self.inside.values in
    let new = c.put.new.self in
    λ i. record {
      now =
          (listed_push (slice_get old.items) (slice_get new.items) c.self.inside.len c.args.value c.in_ok-put.ensures.items
          ∙ ap (λ l. l ++ c.args.value ∷ []) shown) i;
      mark = (then_same (stood_in old) (stood_in new) c.self.inside.len_then c.unwrap_or-end.result c.unwrap_or-end.ensures c.put.ensures.stood c.self.invariant.1 ∙ ap (λ v. v.mark) c.self.view_is) i;
    }
