use Rattle.std.proofs.Common.{◌≡◌, arith, sym, ap, ◌∙◌, get_or, length, List}
use Rattle.ox_range.specs.declared.runs.Run.{Run}
use Rattle.ox_range.specs.declared.few.Long.{Long}
use Rattle.ox_range.specs.Runs.{AreRunsOf}
use Rattle.ox_range.proofs.RunLemmas.{zero_run, none_behind}
use Rattle.ox_range.proofs.KeptLemmas.{kept_empty, kept_alone, alone_count, alone_of}
use Rattle.ox_range.proofs.few.Runs.settle.Goals as goal

pub returns-in-empty-clause-count : goal.returns-in-empty-clause-count
returns-in-empty-clause-count c =
    let kept : AreRunsOf c.in-Many.long.value.runs.items c.in-Many.long.value.len = rw c.in-Many.is at c.requires in
    let items : c.as_slice.result.now ≡ c.in-Many.long.value.runs.items = c.as_slice.ensures.value ∙ ap (λ (l : Long). l.runs.items) c.deref.ensures in
    rw c.in-Many.is (sym (none_behind c.in-Many.long.value.runs.items 0 (omega (arith, c.in-empty.len_below, ap (λ (rs : List Run). length rs) items))) ∙ kept.len)

pub returns-in-empty-clause-kept : goal.returns-in-empty-clause-kept
returns-in-empty-clause-kept c = kept_empty

pub returns-in-len1-clause-count : goal.returns-in-len1-clause-count
returns-in-len1-clause-count c =
    let kept : AreRunsOf c.in-Many.long.value.runs.items c.in-Many.long.value.len = rw c.in-Many.is at c.requires in
    let items : c.as_slice.result.now ≡ c.in-Many.long.value.runs.items = c.as_slice.ensures.value ∙ ap (λ (l : Long). l.runs.items) c.deref.ensures in
    let here : AreRunsOf c.as_slice.result.now c.in-Many.long.value.len = rw items kept in
    rw c.in-Many.is (alone_count (get_or c.as_slice.result.now 0 zero_run) c.in-Many.long.value.len (alone_of c.as_slice.result.now c.in-Many.long.value.len here (omega (arith, c.in-len1.len_at_least)) (omega (arith, c.in-len1.len_below))))

pub returns-in-len1-clause-kept : goal.returns-in-len1-clause-kept
returns-in-len1-clause-kept c =
    let kept : AreRunsOf c.in-Many.long.value.runs.items c.in-Many.long.value.len = rw c.in-Many.is at c.requires in
    let items : c.as_slice.result.now ≡ c.in-Many.long.value.runs.items = c.as_slice.ensures.value ∙ ap (λ (l : Long). l.runs.items) c.deref.ensures in
    let here : AreRunsOf c.as_slice.result.now c.in-Many.long.value.len = rw items kept in
    kept_alone (get_or c.as_slice.result.now 0 zero_run) c.in-Many.long.value.len (alone_of c.as_slice.result.now c.in-Many.long.value.len here (omega (arith, c.in-len1.len_at_least)) (omega (arith, c.in-len1.len_below)))
