use Rattle.std.proofs.Common.{◌≡◌, ◌∙◌, ap, is_some, subst}
use Rattle.std.specs.Prelude.{All}
use Rattle.std.specs.Option.{IfSome, option_copied}
use Rattle.std.specs.Map.{lookup}
use Rattle.std.specs.BTreeMap.{is_at}
use Rattle.ox_marked.specs.Marked.{Logged, Values, before_in, is_changed, mark_in, standing}
use Rattle.ox_marked.proofs.LogLemmas.{both_ok, if_marked, keys_put, values_before}
use Rattle.ox_marked.proofs.marked.Marked.changed.Goals as goal

pub returns-clause-put : goal.returns-clause-put
returns-clause-put g c =
    both_ok c.oldest.result _ _ _ (λ changes ordered values q.
    keys_put g.met.K.Ord.total changes.items c.deref.result.now ordered values q
    ∙ ap (λ (l : Values g.row.K.Denot g.row.V.Denot). is_some (lookup (is_at (g.K.Ord.cmp q)) l)) c.deref.ensures.value
    ∙ ap (λ (m : Logged g.row.K.Denot g.row.V.Denot). is_changed g.K.Ord.cmp m q) c.self.view_is) c.oldest.ensures.ordered c.oldest.ensures.values

pub returns-clause-before : goal.returns-clause-before
returns-clause-before g c =
    let now = standing g.K.Ord.cmp c.self.inside.entries in
    both_ok c.oldest.result _ _ _ (λ changes ordered values.
    subst (λ (m : Logged g.row.K.Denot g.row.V.Denot). IfSome (mark_in g.K.Ord.cmp m) (λ at. All (λ change. option_copied change.1 ≡ at change.0) changes.items)) c.self.view_is
    (if_marked c.self.inside.marked (before_in g.K.Ord.cmp c.self.inside.log.items now) (λ at. All (λ change. option_copied change.1 ≡ at change.0) changes.items)
    (subst (λ (l : Values g.row.K.Denot g.row.V.Denot). All (λ change. option_copied change.1 ≡ before_in g.K.Ord.cmp l now change.0) changes.items) c.deref.ensures.value
    (values_before g.met.K.Ord.total changes.items c.deref.result.now ordered values now)))) c.oldest.ensures.ordered c.oldest.ensures.values
