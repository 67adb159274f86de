use Rattle.std.proofs.Common.{rules, arith, ◌≡◌, ◌∙◌, ◌++◌, ◌<◌, ℕ, ap, length, refl, subst, sym, Some}
use Rattle.std.specs.Prelude.{IsSome}
use Rattle.std.proofs.lemmas.Result.{IfOk-weaker}
use Rattle.ox_shards.specs.Lines.{line_of}
use Rattle.ox_shards.specs.Shards.{Entries, AreShards, entries_of, value_at}
use Rattle.ox_shards.proofs.ListLemmas.{no_value}
use Rattle.ox_shards.proofs.ShardLemmas.{same_shards, held_at, changed_at, after_call, after_failure, nothing_there, too_few}
use Rattle.ox_shards.proofs.shards.Shards.set.Given.{Over}
use Rattle.ox_shards.proofs.shards.Shards.set.Goals.{After-make_lists, After-put}
use Rattle.ox_shards.proofs.shards.Shards.set.Goals as goal

-- the line of a key
abbrev pub line : (g : Over) (c : After-make_lists g) → g.row.K.Denot → ℕ
line g c key = line_of c.self.inside.lines (g.K.Sharded.spread key)

are : (g : Over) (c : After-make_lists g) → AreShards g.K.Ord.cmp (line g c) c.self.inside.lines.count c.make_lists.new.lists.items c.self.inside.others.entries
are g c = same_shards g.K.Ord.cmp (line g c) c.self.inside.lines.count c.self.inside.lists.items c.self.inside.others.entries c.self.invariant c.make_lists.new.lists.items c.make_lists.ensures.kept c.make_lists.ensures.each

stand : (g : Over) (c : After-make_lists g) → entries_of c.make_lists.new.lists.items c.self.inside.others.entries ≡ c.args.self.now
stand g c = ap (λ (es : Entries g.row.K.Denot g.row.V.Denot). es ++ c.self.inside.others.entries) c.make_lists.ensures.same ∙ c.self.view_is

pub invariant_of-self : goal.invariant_of-self
invariant_of-self g c = are g (goal.at.invariant_of-self g c).After-make_lists

pub returns-then-is_err-clause-err : goal.returns-then-is_err-clause-err
returns-then-is_err-clause-err g c = stand g (goal.at.returns-then-is_err-clause-err g c).After-make_lists

pub returns-then-is_err-clause-present : goal.returns-then-is_err-clause-present
returns-then-is_err-clause-present g c = λ some.
    absurd (no_value _ (ap (λ (es : Entries g.row.K.Denot g.row.V.Denot). value_at g.K.Ord.cmp es c.args.key)
    (sym c.self.view_is ∙ nothing_there g.K.Ord.cmp (line g (goal.at.returns-then-is_err-clause-present g c).After-make_lists) c.self.inside.lines.count c.self.inside.lists.items c.self.inside.others.entries c.self.invariant
    (too_few c.make_lists.result _ _ (λ enough. c.make_lists.ensures.present (omega (arith, enough, c.count.ensures))) (search rules)))) some)

low : (g : Over) (c : After-put g) → c.line_of-index.result < length c.make_lists.new.lists.items
low g c = search (rules, arith)

is : (g : Over) (c : After-put g) → c.line_of-index.result ≡ line_of c.self.inside.lines (g.K.Sharded.spread c.args.key)
is g c = c.line_of-index.ensures.value ∙ ap (line_of c.self.inside.lines) c.spread.ensures

pub invariant_of-self-2 : goal.invariant_of-self-2
invariant_of-self-2 g c =
    let p = (goal.at.invariant_of-self-2 g c).After-put in
    let m = (goal.at.invariant_of-self-2 g c).After-make_lists in
    after_call g.K.Ord.cmp (line g m) c.self.inside.lines.count c.make_lists.new.lists.items c.self.inside.others.entries (are g m) c.args.self.now (stand g m) c.args.key c.line_of-index.result (is g p) c.index_mut.result.now c.put.new.list (low g p) c.index_mut.ensures.value (λ a b same. ap (line_of c.self.inside.lines) (g.met.K.Sharded.alike a b same)) c.put.new.others.entries (Some c.args.value) c.put.result c.put.ensures.ok c.put.ensures.err

pub returns-clause-displaced : goal.returns-clause-displaced
returns-clause-displaced g c =
    let p = (goal.at.returns-clause-displaced g c).After-put in
    let m = (goal.at.returns-clause-displaced g c).After-make_lists in
    IfOk-weaker c.put.result _ _ (λ v has. held_at g.K.Ord.cmp (line g m) c.self.inside.lines.count c.make_lists.new.lists.items c.self.inside.others.entries (are g m) c.args.self.now (stand g m) c.args.key c.line_of-index.result (is g p) c.index_mut.result.now c.put.new.list (low g p) c.index_mut.ensures.value v has) c.put.ensures.displaced

pub returns-clause-ok : goal.returns-clause-ok
returns-clause-ok g c =
    let p = (goal.at.returns-clause-ok g c).After-put in
    let m = (goal.at.returns-clause-ok g c).After-make_lists in
    IfOk-weaker c.put.result _ _ (λ _ change. changed_at g.K.Ord.cmp (line g m) c.self.inside.lines.count c.make_lists.new.lists.items c.self.inside.others.entries (are g m) c.args.self.now (stand g m) c.args.key c.line_of-index.result (is g p) c.index_mut.result.now c.put.new.list (low g p) c.index_mut.ensures.value (λ a b same. ap (line_of c.self.inside.lines) (g.met.K.Sharded.alike a b same)) c.put.new.others.entries (Some c.args.value) change) c.put.ensures.ok

pub returns-clause-err : goal.returns-clause-err
returns-clause-err g c =
    let p = (goal.at.returns-clause-err g c).After-put in
    let m = (goal.at.returns-clause-err g c).After-make_lists in
    after_failure g.K.Ord.cmp (line g m) c.self.inside.lines.count c.make_lists.new.lists.items c.self.inside.others.entries (are g m) c.args.self.now (stand g m) c.args.key c.line_of-index.result (is g p) c.index_mut.result.now c.put.new.list (low g p) c.index_mut.ensures.value (λ a b same. ap (line_of c.self.inside.lines) (g.met.K.Sharded.alike a b same)) c.put.new.others.entries (Some c.args.value) c.put.result c.put.ensures.err

pub returns-clause-present : goal.returns-clause-present
returns-clause-present g c = λ some.
    let p = (goal.at.returns-clause-present g c).After-put in
    let m = (goal.at.returns-clause-present g c).After-make_lists in
    c.put.ensures.present (subst IsSome (sym (held_at g.K.Ord.cmp (line g m) c.self.inside.lines.count c.make_lists.new.lists.items c.self.inside.others.entries (are g m) c.args.self.now (stand g m) c.args.key c.line_of-index.result (is g p) c.index_mut.result.now c.put.new.list (low g p) c.index_mut.ensures.value _ refl)) some)
