use Rattle.ox_model.proofs.AnswersOfStacks.{after_joined}
use Rattle.ox_model.specs.Machine.{turn}
use Rattle.ox_model.proofs.runs_join.Goals as goal

pub returns : goal.returns
returns c = after_joined turn
