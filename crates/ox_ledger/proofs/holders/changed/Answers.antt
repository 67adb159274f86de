use Rattle.std.proofs.Common.{◌≡◌, ◌∙◌, ◌++◌, List, subst, sym, ap, false}
use Rattle.std.specs.Map.{keys_of}
use Rattle.std.specs.Option.{option_copied}
use Rattle.std.specs.List.Sorted.{IsStrictlySortedBy}
use Rattle.ox_block.specs.declared.block.OutPoint.{OutPoint}
use Rattle.ox_marked.specs.Marked.{is_changed}
use Rattle.ox_rules.specs.Outputs.{outpoint_cmp}
use Rattle.ox_ledger.proofs.GoneLemmas.{Pairs, Values, at_the_mark, beside, differ, gone_among, held_with, marked_from, pair_next, pairs_all, value_now, value_then}
use Rattle.ox_ledger.specs.Runes.{Placement}
use Rattle.ox_ledger.proofs.holders.changed.Goals as goal

-- what is told so far stays where room is made
room_left : (new old more all : List Placement) → new ≡ old → old ++ more ≡ all → new ++ more ≡ all
room_left new old more all same whole = ap (λ (l : List Placement). l ++ more) same ∙ whole

pub loop-place-preserved : goal.loop-place-preserved
loop-place-preserved c =
    let map = c.args.holders.now in
    let pairs = c.deref-change-items.result.now in
    let i = c.loop-place.place in
    let pair = c.change-item.result in
    let was = held_with map pairs c.in_ok-changes.changes.items c.deref-change-items.ensures.value c.requires c.in_ok-changes.ensures.before i pair c.loop-place-test.true c.change-item.is in
    record {
      gone = pair_next (value_then map) (value_now map) pairs i pair c.make_room.new.gone.items c.push_gone.new.list.items (gone_among (value_then map) (value_now map) (keys_of pairs)) (option_copied pair.1)
          (option_copied c.get-now.result) c.loop-place-test.true c.change-item.is was c.get-now.ensures (room_left c.make_room.new.gone.items c.loop-place.gone.items _ _ c.make_room.ensures.gone c.loop-place.invariant.gone) c.in_ok-push_gone.ensures.differs c.in_ok-push_gone.ensures.same;
      came = pair_next (value_now map) (value_then map) pairs i pair c.make_room.new.came.items c.push_gone-in-loop-place.new.list.items (gone_among (value_now map) (value_then map) (keys_of pairs)) (option_copied c.get-now.result)
          (option_copied pair.1) c.loop-place-test.true c.change-item.is c.get-now.ensures was (room_left c.make_room.new.came.items c.loop-place.came.items _ _ c.make_room.ensures.came c.loop-place.invariant.came) c.in_ok-push_gone-2.ensures.differs c.in_ok-push_gone-2.ensures.same;
    }

pub returns : goal.returns
returns c =
    let map = c.args.holders.now in
    let pairs = c.deref-change-items.result.now in
    let keys = keys_of pairs in
    let gone = c.from_vec.ensures ∙ pairs_all (value_then map) (value_now map) pairs c.loop-place.place c.loop-place.gone.items (gone_among (value_then map) (value_now map) keys) c.loop-place-test.false c.loop-place.invariant.gone in
    let came = c.from_vec-2.ensures ∙ pairs_all (value_now map) (value_then map) pairs c.loop-place.place c.loop-place.came.items (gone_among (value_now map) (value_then map) keys) c.loop-place-test.false c.loop-place.invariant.came in
    differ map keys c.from_vec.result c.from_vec-2.result (subst (λ (l : Pairs). IsStrictlySortedBy outpoint_cmp (keys_of l)) (sym c.deref-change-items.ensures.value) c.in_ok-changes.ensures.rising)
    (beside map keys (keys_of c.in_ok-changes.changes.items) (ap (λ (l : Pairs). keys_of l) c.deref-change-items.ensures.value) c.in_ok-changes.ensures.put
    (at_the_mark map (λ (f : Values). (q : OutPoint) → is_changed outpoint_cmp map q ≡ false → value_now map q ≡ f q) (marked_from map c.requires) c.in_ok-changes.ensures.others)) gone came
