use Rattle.std.proofs.Common.{◌≡◌, ◌∙◌, Option, ap, is_some, subst}
use Rattle.std.specs.BTreeMap.{is_at}
use Rattle.std.specs.Map.{lookup}
use Rattle.std.specs.Option.{IfSome}
use Rattle.ox_marked.specs.Marked.{Logged, Values, before_in, mark_in, standing}
use Rattle.ox_marked.proofs.LogLemmas.{back_to, if_marked, mark_kept, none_logged}
use Rattle.ox_marked.proofs.marked.Marked.restore.Goals as goal

pub invariant_of-self : goal.invariant_of-self
invariant_of-self g c = none_logged g.K.Ord.cmp c.clear.new.self.items c.sweep_all-read.new.entries c.clear.ensures.items

pub returns-clause-content : goal.returns-clause-content
returns-clause-content g c =
    subst (λ (m : Logged g.row.K.Denot g.row.V.Denot). IfSome (mark_in g.K.Ord.cmp m) (λ at. (q : g.row.K.Denot) → standing g.K.Ord.cmp c.sweep_all-read.new.entries q ≡ at q)) c.self.view_is
    (if_marked c.self.inside.marked (before_in g.K.Ord.cmp c.self.inside.log.items (standing g.K.Ord.cmp c.self.inside.entries))
    (λ (at : g.row.K.Denot → Option g.row.V.Denot). (q : g.row.K.Denot) → standing g.K.Ord.cmp c.sweep_all-read.new.entries q ≡ at q)
    (back_to g.K.Ord.cmp c.self.inside.log.items c.deref_mut.result.now c.self.inside.entries c.put_back.new.entries c.sweep_all-read.new.entries c.deref_mut.ensures.value c.put_back.ensures c.sweep_all-read.ensures))

pub returns-clause-mark : goal.returns-clause-mark
returns-clause-mark g c =
    mark_kept g.K.Ord.cmp c.self.inside.log.items c.clear.new.self.items c.self.inside.entries c.sweep_all-read.new.entries c.self.inside.marked c.clear.ensures.items
    (back_to g.K.Ord.cmp c.self.inside.log.items c.deref_mut.result.now c.self.inside.entries c.put_back.new.entries c.sweep_all-read.new.entries c.deref_mut.ensures.value c.put_back.ensures c.sweep_all-read.ensures)
    ∙ ap (mark_in g.K.Ord.cmp) c.self.view_is

pub returns-clause-changed : goal.returns-clause-changed
returns-clause-changed g c = λ q. ap (λ (l : Values g.row.K.Denot g.row.V.Denot). is_some (lookup (is_at (g.K.Ord.cmp q)) l)) c.clear.ensures.items
