use Rattle.std.proofs.Common.{◌∙◌, ap, sym, subst, is_some, List}
use Rattle.std.specs.Prelude.{◌==◌}
use Rattle.std.specs.List.{list_any}
use Rattle.ox_range.specs.Runs.{runs_of}
use Rattle.ox_range.proofs.RunLemmas.{numbers_of-runs_of}
use Rattle.ox_range_index.specs.Index.{Reaches}
use Rattle.ox_range_index.specs.declared.reaches.Reach.{Reach}
use Rattle.ox_range_index.proofs.ReachLaws.{in_runs, some_place}
use Rattle.ox_range_index.proofs.index.RangeIndex.contains.Goals as goal

pub returns-in-None : goal.returns-in-None
returns-in-None c =
    c.is_some.ensures
    ∙ ap is_some c.place_of.ensures
    ∙ some_place (λ s. s == c.args.sat) c.self.inside.ranges.now
    ∙ ap (list_any (λ s. s == c.args.sat)) c.self.view_is

pub returns-in-Some : goal.returns-in-Some
returns-in-Some c =
    let runs = runs_of c.self.inside.ranges.now in
    let reached = (c.self.invariant.searched c.in-Some.tables c.in-Some.is).reached in
    c.reach_over.ensures runs (subst (λ (reaches : List Reach). Reaches runs reaches) (sym c.deref.ensures.value) reached)
    ∙ sym (in_runs c.args.sat runs)
    ∙ ap (list_any (λ s. s == c.args.sat)) (numbers_of-runs_of c.self.inside.ranges.now ∙ c.self.view_is)
