use Rattle.std.proofs.Common.{rules, arith, ◌≡◌, ◌<◌, ◌≤◌, ◌-◌, ◌∙◌, ap, get_or, length, take, drop}
use Rattle.ox_shards.specs.Lines.{is_last}
use Rattle.ox_shards.proofs.SplitLemmas.{parted_whole, unparted_whole, from_both, from_failure}
use Rattle.ox_shards.proofs.shards.split.Given.{Over}
use Rattle.ox_shards.proofs.shards.split.Goals.{After-part}
use Rattle.ox_shards.proofs.shards.split.Goals as goal

other : (g : Over) (c : After-part g) → c.args.from < c.args.lines.now.count - 1
other g c = omega (arith, c.requires.other)

low : (g : Over) (c : After-part g) → c.args.lines.now.count - 1 < length c.make_lists.new.lists.items
low g c = search (rules, arith)

long : (g : Over) (c : After-part g) → length c.make_lists.new.lists.items ≤ c.make_lists.new.lists.len
long g c = search (rules, arith)

front : (g : Over) (c : After-part g) → c.split_at_mut-low.result.0.now ≡ take (c.args.lines.now.count - 1) c.make_lists.new.lists.items
front g c = c.split_at_mut-low.ensures.front ∙ ap (λ n. take (n - 1) c.deref_mut.result.now) c.count-last.ensures ∙ ap (take (c.args.lines.now.count - 1)) c.deref_mut.ensures.value

back : (g : Over) (c : After-part g) → c.split_at_mut-low.result.1.now ≡ drop (c.args.lines.now.count - 1) c.make_lists.new.lists.items
back g c = c.split_at_mut-low.ensures.back ∙ ap (λ n. drop (n - 1) c.deref_mut.result.now) c.count-last.ensures ∙ ap (drop (c.args.lines.now.count - 1)) c.deref_mut.ensures.value

pub returns-clause-ok : goal.returns-clause-ok
returns-clause-ok g c =
    let p = (goal.at.returns-clause-ok g c).After-part in
    from_both c.part.result (parted_whole c.args.lists.now.items c.make_lists.new.lists.items c.make_lists.ensures.each c.args.from (c.args.lines.now.count - 1) c.make_lists.new.lists.len (other g p) (low g p) (long g p)
    c.split_at_mut-low.result.0.now c.split_at_mut-low.result.1.now (front g p) (back g p) (get_or c.split_at_mut-low.result.0.now c.args.from c.index-low-from.result) c.part.new.self c.part.new.last (ap (get_or c.split_at_mut-low.result.0.now c.args.from) c.index-low-from.is)
    (λ key. is_last c.args.lines.now (g.K.Sharded.spread key))) c.part.ensures.stay c.part.ensures.go

pub returns-clause-err : goal.returns-clause-err
returns-clause-err g c =
    let p = (goal.at.returns-clause-err g c).After-part in
    from_failure c.part.result (λ same. unparted_whole c.args.lists.now.items c.make_lists.new.lists.items c.make_lists.ensures.each c.args.from (c.args.lines.now.count - 1) c.make_lists.new.lists.len (other g p) (low g p) (long g p)
    c.split_at_mut-low.result.0.now c.split_at_mut-low.result.1.now (front g p) (back g p) (get_or c.split_at_mut-low.result.0.now c.args.from c.index-low-from.result) c.part.new.self c.part.new.last (ap (get_or c.split_at_mut-low.result.0.now c.args.from) c.index-low-from.is)
    same.0 same.1 c.requires.empty) c.part.ensures.err
