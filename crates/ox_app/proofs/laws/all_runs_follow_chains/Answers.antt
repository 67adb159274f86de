use Rattle.ox_app.proofs.AnyRuns.{last_of_any}
use Rattle.ox_app.proofs.laws.all_runs_follow_chains.Goals as goal

pub returns : goal.returns
returns c = last_of_any
