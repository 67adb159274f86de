use Rattle.std.proofs.Common.{Bor, Option, rules}
use Rattle.std.proofs.lemmas.List.Sorted.{answers_always, ranks_by}
use Rattle.ox_marked.proofs.marked.sort.Goals as goal

pub returns-clause-sorted : goal.returns-clause-sorted
returns-clause-sorted g c =
    c.in_ok-sort_by.ensures.sorted _ (ranks_by g.met.K.Ord.total (λ (p : g.row.K.Denot × Option (Bor g.row.V.Denot)). p.0)) (answers_always _ _ _ (λ f a r f' k. search rules))

pub returns-clause-stable : goal.returns-clause-stable
returns-clause-stable g c =
    c.in_ok-sort_by.ensures.stable _ (ranks_by g.met.K.Ord.total (λ (p : g.row.K.Denot × Option (Bor g.row.V.Denot)). p.0)) (answers_always _ _ _ (λ f a r f' k. search rules))
