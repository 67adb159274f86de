use Rattle.std.proofs.Common.{◌∙◌, Some, ap, sym}
use Rattle.std.specs.Prelude.{slice_get}
use Rattle.ox_ledger.specs.Marks.{stood_in}
use Rattle.ox_ledger.proofs.KeptLemmas.{stood_last}
use Rattle.ox_ledger.proofs.ListLemmas.{full_same, listed_same, then_full, then_is, then_now, then_same}
use Rattle.ox_ledger.proofs.list.MarkedList.restore.Goals as goal

pub invariant_of-self : goal.invariant_of-self
invariant_of-self g c =
    let old = c.self.inside.values in
    let new = c.put_back.new.self in
    let then = c.self.inside.len_then in (
      full_same (stood_in old) (slice_get new.items) c.unwrap_or-self-inside.result c.put_back.ensures.items (then_now (stood_in old) then c.unwrap_or-self-inside.result c.args.self.now.mark c.unwrap_or-self-inside.ensures (ap (λ v. v.mark) c.self.view_is) c.requires c.self.invariant.1),
      then_full (stood_in old) (stood_in new) then c.unwrap_or-self-inside.result c.unwrap_or-self-inside.ensures (λ q less some. stood_last new q c.put_back.ensures.stood ∙ c.put_back.ensures.items q) c.self.invariant.1,
    )

pub returns-clause-now : goal.returns-clause-now
returns-clause-now g c =
    let old = c.self.inside.values in
    let new = c.put_back.new.self in
    let then = c.self.inside.len_then in
    then_is (stood_in old) then c.unwrap_or-self-inside.result c.args.self.now.mark c.unwrap_or-self-inside.ensures (ap (λ v. v.mark) c.self.view_is) c.requires
    ∙ ap Some (sym (listed_same (slice_get new.items) (stood_in old) c.unwrap_or-self-inside.result (λ q less. c.put_back.ensures.items q)))

pub returns-clause-mark : goal.returns-clause-mark
returns-clause-mark g c =
    let old = c.self.inside.values in
    let new = c.put_back.new.self in
    then_same (stood_in old) (stood_in new) c.self.inside.len_then c.unwrap_or-self-inside.result c.unwrap_or-self-inside.ensures (λ q less some. stood_last new q c.put_back.ensures.stood ∙ c.put_back.ensures.items q) c.self.invariant.1 ∙ ap (λ v. v.mark) c.self.view_is
