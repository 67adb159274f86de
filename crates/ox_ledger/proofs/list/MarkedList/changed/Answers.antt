use Rattle.std.proofs.Common.{◌≡◌, ◌∙◌, ◌<◌, ap, length, sym, subst}
use Rattle.std.specs.Prelude.{All, is_some, slice_get}
use Rattle.std.specs.List.{list_any}
use Rattle.std.specs.List.Sorted.{IsStrictlySortedBy}
use Rattle.std.specs.Map.{keys_of}
use Rattle.std.specs.Option.{IfSome, option_copied}
use Rattle.std.specs.Ordering.{is_eq, nat_cmp}
use Rattle.ox_ledger.specs.Marks.{kept_at, stood_in}
use Rattle.ox_ledger.proofs.KeptLemmas.{any_kept, unkept}
use Rattle.ox_ledger.proofs.ListChanges.{if_ok, stays_beside, values_then}
use Rattle.ox_ledger.proofs.list.MarkedList.changed.Goals as goal

pub returns-clause-rising : goal.returns-clause-rising
returns-clause-rising g c = if_ok c.shown.result (λ changes places. subst (IsStrictlySortedBy nat_cmp) (sym places) c.shown.ensures.rising) c.shown.ensures.places

pub returns-clause-then : goal.returns-clause-then
returns-clause-then g c = if_ok c.shown.result (λ changes stood.
    subst (λ m. IfSome m (λ list. All (λ change. change.0 < length list → slice_get list change.0 ≡ option_copied change.1) changes.items)) (ap (λ v. v.mark) c.self.view_is)
    (values_then (stood_in c.self.inside.values) c.self.inside.len_then changes.items c.self.invariant.1 stood)) c.shown.ensures.stood

pub returns-clause-others : goal.returns-clause-others
returns-clause-others g c = if_ok c.shown.result (λ changes places.
    let values = c.self.inside.values in
    stays_beside (slice_get values.items) (stood_in values) c.self.inside.len c.self.inside.len_then (λ q. is_some (kept_at values.stood q)) (keys_of changes.items) c.args.self.now
    c.self.view_is c.self.invariant.0 c.self.invariant.1 (λ q none. unkept values q none) (λ q. ap (list_any (λ key. is_eq (nat_cmp q key))) places ∙ any_kept values.stood q)) c.shown.ensures.places
