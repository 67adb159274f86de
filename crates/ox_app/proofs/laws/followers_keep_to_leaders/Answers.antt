use Rattle.ox_app.proofs.FollowRuns.{runs_keep}
use Rattle.ox_app.proofs.laws.followers_keep_to_leaders.Goals as goal

pub returns : goal.returns
returns c = λ generation body stack events spelled files first runs stood had sent turns. runs_keep generation body stack events spelled files first runs stood had sent turns
