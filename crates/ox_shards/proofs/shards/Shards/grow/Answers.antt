use Rattle.std.proofs.Common.{arith, ◌∙◌, ap, sym}
use Rattle.ox_shards.specs.Lines.{line_of}
use Rattle.ox_shards.specs.Shards.{Entries, items_at, value_at}
use Rattle.ox_shards.proofs.SplitLemmas.{none_yet, split_shards, split_values, same_values, if_ok, if_err}
use Rattle.ox_shards.proofs.shards.Shards.grow.Goals as goal

pub split-requires-clause-empty : goal.split-requires-clause-empty
split-requires-clause-empty g c =
    ap (items_at c.self.inside.lists.items) (omega (arith, c.in-Some.ensures.more))
    ∙ none_yet g.met.K.Ord.total g.K.Sharded.spread g.met.K.Sharded.alike c.self.inside.lines c.in-Some.lines c.in-Some.from c.in-Some.ensures c.self.inside.lists.items c.self.inside.others.entries c.self.invariant

pub invariant_of-self : goal.invariant_of-self
invariant_of-self g c =
    split_shards g.met.K.Ord.total g.K.Sharded.spread g.met.K.Sharded.alike c.self.inside.lines c.in-Some.lines c.in-Some.from c.in-Some.ensures c.self.inside.lists.items c.self.inside.others.entries c.self.invariant c.split.new.lists.items
    (if_ok c.split.result (sym c.is_ok.ensures.value ∙ c.if-is_ok.true) c.split.ensures.ok)

pub returns-then-is_ok : goal.returns-then-is_ok
returns-then-is_ok g c = λ q.
    split_values g.met.K.Ord.total g.K.Sharded.spread g.met.K.Sharded.alike c.self.inside.lines c.in-Some.lines c.in-Some.from c.in-Some.ensures c.self.inside.lists.items c.self.inside.others.entries c.self.invariant c.split.new.lists.items
    (if_ok c.split.result (sym c.is_ok.ensures.value ∙ c.if-is_ok.true) c.split.ensures.ok) q
    ∙ ap (λ (es : Entries g.row.K.Denot g.row.V.Denot). value_at g.K.Ord.cmp es q) c.self.view_is

pub returns-else-is_ok : goal.returns-else-is_ok
returns-else-is_ok g c = λ q.
    same_values g.K.Ord.cmp (λ key. line_of c.self.inside.lines (g.K.Sharded.spread key)) c.self.inside.lines.count c.self.inside.lists.items c.self.inside.others.entries c.self.invariant c.split.new.lists.items c.split.ensures.kept
    (if_err c.split.result (sym c.is_ok.ensures.value ∙ c.if-is_ok.false) c.split.ensures.err) q
    ∙ ap (λ (es : Entries g.row.K.Denot g.row.V.Denot). value_at g.K.Ord.cmp es q) c.self.view_is
