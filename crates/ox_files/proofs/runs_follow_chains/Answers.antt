use Rattle.ox_files.proofs.RunsInTurn.{last_of_runs}
use Rattle.ox_files.proofs.runs_follow_chains.Goals as goal

pub returns : goal.returns
returns c = last_of_runs
