use Rattle.std.proofs.Common.{sym, ◌∙◌, ap}
use Rattle.ox_range.specs.Few.{runs_in}
use Rattle.ox_range.specs.Runs.{runs_of}
use Rattle.ox_range.proofs.RunLemmas.{runs_of-numbers_of}
use Rattle.ox_range.proofs.Ranges.runs.Goals as goal

pub returns-clause-exact : goal.returns-clause-exact
returns-clause-exact c =
    c.as_slice.ensures ∙ sym (runs_of-numbers_of (runs_in c.self.inside.runs) c.self.invariant.are_runs.maximal) ∙ ap runs_of c.self.view_is
