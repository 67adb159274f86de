use Rattle.ox_model.proofs.AnswersOfStacks.{after_alike, commands_alike, replies_alike}
use Rattle.ox_model.proofs.stacks_follow_chains.Goals as goal

pub returns-clause-answers : goal.returns-clause-answers
returns-clause-answers c = replies_alike

pub returns-clause-leads : goal.returns-clause-leads
returns-clause-leads c = after_alike

pub returns-clause-commands : goal.returns-clause-commands
returns-clause-commands c = commands_alike
