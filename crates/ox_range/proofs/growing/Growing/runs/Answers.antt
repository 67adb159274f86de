use Rattle.std.proofs.Common.{sym, ap, ◌∙◌}
use Rattle.ox_range.specs.Runs.{runs_of}
use Rattle.ox_range.proofs.RunLemmas.{runs_of-numbers_of}
use Rattle.ox_range.proofs.growing.Growing.runs.Goals as goal

pub returns-clause-exact : goal.returns-clause-exact
returns-clause-exact c =
    c.as_slice.ensures.value ∙ sym (runs_of-numbers_of c.self.inside.long.runs.items c.self.invariant.maximal) ∙ ap runs_of c.self.view_is
