use Rattle.std.proofs.Common.{◌≡◌, ◌==◌, ◌<◌, ℕ, arith, false, length, subst, sym, List, None}
use Rattle.std.proofs.lemmas.List.{length-map}
use Rattle.std.specs.Prelude.{All, slice_get}
use Rattle.std.specs.List.{list_any}
use Rattle.std.specs.List.Sorted.{IsStrictlySortedBy}
use Rattle.std.specs.Map.{keys_of}
use Rattle.std.specs.Option.{IfSome}
use Rattle.std.specs.Ordering.{nat_cmp}
use Rattle.ox_marked.specs.Marked.{mark_in}
use Rattle.ox_allocation.specs.Balances.{id_cmp}
use Rattle.ox_etching.specs.declared.row.RuneRow.{RuneRow}
use Rattle.ox_ledger.specs.Marks.{WithMark}
use Rattle.ox_ledger.proofs.CountLemmas.{Pairs, Then, change_all, if_indexed, pair_next, then_at}
use Rattle.ox_ledger.proofs.table.RuneTable.counts_changed.Goals as goal

pub push_change-requires-clause-then : goal.push_change-requires-clause-then
push_change-requires-clause-then c =
    let rows = c.self.inside.rows in
    let items = c.deref-place-items.result.now in
    then_at c.args.self.now.mark items c.loop-place.place-index (0, None) c.loop-place-test.true
    (subst (λ (v : WithMark (List RuneRow)). IfSome v.mark (λ list. All (Then list) items)) c.self.view_is
    (if_indexed (λ list. All (Then list) items) rows.mark (mark_in id_cmp c.self.inside.ids) (mark_in nat_cmp c.self.inside.names)
    (subst (λ (l : Pairs). IfSome rows.mark (λ list. All (Then list) l)) (sym c.deref-place-items.ensures.value) c.in_ok-changes.ensures.then)))

pub loop-place-preserved : goal.loop-place-preserved
loop-place-preserved c =
    pair_next c.args.self.now.mark c.args.self.now.now c.deref-place-items.result.now c.loop-place.place-index (0, None) c.loop-place.counts c.push_change.new.counts c.loop-place-test.true
    c.loop-place.invariant c.in_ok-push_change.ensures

pub returns : goal.returns
returns c =
    let items = c.deref-place-items.result.now in
    let rows = c.self.inside.rows in
    let long = length-map items (λ e. e.0) in
    let others =
    if_indexed (λ before. (place : ℕ) → place < length rows.now → place < length before → list_any (λ p. p == place) (keys_of items) ≡ false → slice_get rows.now place ≡ slice_get before place) rows.mark (mark_in id_cmp c.self.inside.ids) (mark_in nat_cmp c.self.inside.names)
    (subst (λ (l : Pairs). IfSome rows.mark (λ before. (place : ℕ) → place < length rows.now → place < length before → list_any (λ p. p == place) (keys_of l) ≡ false → slice_get rows.now place ≡ slice_get before place))
    (sym c.deref-place-items.ensures.value) c.in_ok-changes.ensures.others) in
    change_all c.args.self.now.mark c.args.self.now.now (keys_of items) c.loop-place.place-index c.loop-place.counts (omega (arith, c.loop-place-test.false, long))
    (subst (λ (l : Pairs). IsStrictlySortedBy nat_cmp (keys_of l)) (sym c.deref-place-items.ensures.value) c.in_ok-changes.ensures.rising) c.loop-place.invariant
    (subst
    (λ (v : WithMark (List RuneRow)). IfSome v.mark (λ before. (place : ℕ) → place < length v.now → place < length before → list_any (λ p. p == place) (keys_of items) ≡ false → slice_get v.now place ≡ slice_get before place))
    c.self.view_is others)
