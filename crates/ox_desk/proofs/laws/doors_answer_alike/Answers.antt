use Rattle.ox_model.specs.Stack.{stack_after}
use Rattle.ox_desk.proofs.Whole.{doors_alike}
use Rattle.ox_desk.specs.Asked.{asked_on}
use Rattle.ox_desk.proofs.laws.doors_answer_alike.Goals as goal

pub returns : goal.returns
returns c = doors_alike stack_after asked_on
