use Rattle.std.proofs.Common.{◌≡◌, ◌<◌, ◌≤◌, ℕ, arith, get_or, true, false}
use Rattle.std.specs.BTreeMap.{is_at}
use borrow.Author.Count.{below_more}
use Rattle.ox_shards.proofs.ListLemmas.{first_place, no_place}
use Rattle.ox_shards.proofs.TagLemmas.{key_there, tag_there, same_test, other_tag}
use Rattle.ox_shards.proofs.shard.place_in.Goals.{else-other-tag-via-then-other-tag+else-eq, else-other-tag-via-else-other-tag}
use Rattle.ox_shards.proofs.shard.place_in.Goals as goal

pub returns-then-eq : goal.returns-then-eq
returns-then-eq g c =
    first_place (is_at (g.K.Ord.cmp c.args.key.now)) c.args.entries.now c.loop-place.place c.index-entries-place.result (key_there g.K.Sharded.tag c.args.tags.now c.args.entries.now c.requires c.loop-place.place c.loop-place-test.true)
    (λ k low. c.loop-place.invariant k low c.index-entries-place.result)
    (same_test g.K.Sharded.tag c.args.tags.now c.args.entries.now c.requires g.K.Ord.cmp c.args.key.now g.K.PartialEq.eq g.met.K.Ord.matches_eq c.loop-place.place c.index-entries-place.result c.index-entries-place.result c.loop-place-test.true c.eq.result true c.eq.ensures c.if-eq.true)

pub returns : goal.returns
returns g c = no_place (is_at (g.K.Ord.cmp c.args.key.now)) c.args.entries.now
    (λ k low. c.loop-place.invariant k (tag_there g.K.Sharded.tag c.args.tags.now c.args.entries.now c.requires k c.loop-place.place c.loop-place-test.false low))

pub loop-place-preserved : goal.loop-place-preserved
loop-place-preserved g c =
    below_more (λ k. (d : g.row.K.Denot × g.row.V.Denot) → is_at (g.K.Ord.cmp c.args.key.now) (get_or c.args.entries.now k d).0 ≡ false) c.loop-place.place c.loop-place.invariant
    (elim c.else-other-tag.branch [
      | else-other-tag-via-then-other-tag+else-eq w ↦ λ d.
          same_test g.K.Sharded.tag c.args.tags.now c.args.entries.now c.requires g.K.Ord.cmp c.args.key.now g.K.PartialEq.eq g.met.K.Ord.matches_eq c.loop-place.place w.index-entries-place.result d c.loop-place-test.true w.eq.result false w.eq.ensures w.if-eq.false
      | else-other-tag-via-else-other-tag w ↦
          other_tag g.K.Sharded.tag c.args.tags.now c.args.entries.now c.requires g.K.Ord.cmp c.args.key.now g.met.K.Sharded.same_tag c.tag-tag.result c.loop-place.place c.tag-tag.ensures c.loop-place-test.true w.if-other-tag.false
    ])

pub bounds-entries-place : goal.bounds-entries-place
bounds-entries-place g c = key_there g.K.Sharded.tag c.args.tags.now c.args.entries.now c.requires c.loop-place.place c.loop-place-test.true

at_most : (i n : ℕ) → i < n → i ≤ n
at_most i n low = omega (arith, low)

pub offset_bounds-entries-place : goal.offset_bounds-entries-place
offset_bounds-entries-place g c = at_most _ _ (key_there g.K.Sharded.tag c.args.tags.now c.args.entries.now c.requires c.loop-place.place c.loop-place-test.true)
