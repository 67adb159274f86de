use Rattle.std.proofs.Common.{◌∙◌, Some, ap, subst, sym}
use Rattle.std.specs.Prelude.{slice_get}
use Rattle.ox_ledger.specs.Marks.{IsFull, Standing, listed, stood_in}
use Rattle.ox_ledger.proofs.list.MarkedList.begin.Goals as goal

pub invariant_of-self : goal.invariant_of-self
invariant_of-self g c = (
  subst (λ (values : Standing g.row.T.Denot). IsFull (slice_get values.items) c.self.inside.len) (sym c.forget.ensures) c.self.invariant.0,
  subst (λ (values : Standing g.row.T.Denot). IsFull (stood_in values) c.self.inside.len) (sym c.forget.ensures) c.self.invariant.0,
)

pub returns-clause-now : goal.returns-clause-now
returns-clause-now g c = ap (λ (values : Standing g.row.T.Denot). listed (slice_get values.items) c.self.inside.len) c.forget.ensures ∙ ap (λ v. v.now) c.self.view_is

pub returns-clause-mark : goal.returns-clause-mark
returns-clause-mark g c = ap (λ (values : Standing g.row.T.Denot). Some (listed (stood_in values) c.self.inside.len)) c.forget.ensures ∙ ap (λ v. Some v.now) c.self.view_is
