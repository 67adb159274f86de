use Rattle.std.proofs.Common.{◌≡◌, ◌∙◌, Some, ap, subst}
use Rattle.std.specs.Prelude.{All}
use Rattle.std.specs.List.Sorted.{IsStrictlySortedBy}
use Rattle.std.specs.Map.{keys_of}
use Rattle.std.specs.Option.{IsSomeAnd, option_copied}
use Rattle.std.specs.Ordering.{nat_cmp}
use Rattle.std.proofs.lemmas.List.Elements.{All-weaker}
use Rattle.ox_ledger.specs.Marks.{Standing, kept_at, stood_in}
use Rattle.ox_ledger.proofs.KeptLemmas.{told_stood}
use Rattle.ox_ledger.proofs.ListChanges.{if_ok}
use Rattle.ox_ledger.proofs.kept.Kept.shown.Goals as goal

pub returns-clause-rising : goal.returns-clause-rising
returns-clause-rising g c = subst (λ (values : Standing g.row.T.Denot). IsStrictlySortedBy nat_cmp (keys_of values.stood)) c.self.view_is c.shown.ensures.rising

pub returns-clause-places : goal.returns-clause-places
returns-clause-places g c = if_ok c.shown.result (λ shown is. is ∙ ap (λ (values : Standing g.row.T.Denot). keys_of values.stood) c.self.view_is) c.shown.ensures.places

pub returns-clause-stood : goal.returns-clause-stood
returns-clause-stood g c = if_ok c.shown.result (λ shown kept.
    subst (λ (values : Standing g.row.T.Denot). All (λ one. option_copied one.1 ≡ stood_in values one.0) shown.items) c.self.view_is
    (All-weaker (λ one. IsSomeAnd (kept_at c.self.inside.stood.entries one.0) (λ value. option_copied one.1 ≡ Some value)) _
    (λ one is. told_stood (record { items = c.self.inside.items.items; stood = c.self.inside.stood.entries }) one.0 (option_copied one.1) is) shown.items kept)) c.shown.ensures.kept
