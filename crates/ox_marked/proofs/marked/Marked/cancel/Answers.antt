use Rattle.std.proofs.Common.{◌≡◌, ◌∙◌, ap, subst, sym}
use Rattle.std.specs.Option.{IfSome}
use Rattle.ox_marked.specs.Marked.{Logged, content_in, is_changed, mark_in}
use Rattle.ox_marked.proofs.marked.Marked.cancel.Goals as goal

pub invariant_of-self : goal.invariant_of-self
invariant_of-self g c = c.self.invariant

pub returns-clause-content : goal.returns-clause-content
returns-clause-content g c =
    subst (λ (m : Logged g.row.K.Denot g.row.V.Denot). IfSome (mark_in g.K.Ord.cmp c.args.self.now) (λ at. (q : g.row.K.Denot) → content_in g.K.Ord.cmp m q ≡ at q)) (sym c.self.view_is)
    c.restore.ensures.content

pub returns-clause-changed : goal.returns-clause-changed
returns-clause-changed g c = λ q. ap (λ (m : Logged g.row.K.Denot g.row.V.Denot). is_changed g.K.Ord.cmp m q) c.self.view_is ∙ c.restore.ensures.changed q
