use Rattle.ox_model.specs.Stack.{stack_after}
use Rattle.ox_desk.proofs.Whole.{one_reply}
use Rattle.ox_desk.specs.Asked.{asked_on}
use Rattle.ox_desk.proofs.laws.replies_are_whole.Goals as goal

pub returns : goal.returns
returns c = one_reply stack_after asked_on
