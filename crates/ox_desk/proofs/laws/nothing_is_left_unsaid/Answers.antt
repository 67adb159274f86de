use Rattle.ox_model.specs.Stack.{stack_after}
use Rattle.ox_desk.proofs.Whole.{speaks, talk_stays}
use Rattle.ox_desk.specs.Asked.{asked_on}
use Rattle.ox_desk.proofs.laws.nothing_is_left_unsaid.Goals as goal

pub returns : goal.returns
returns c = record { speaks = speaks stack_after asked_on; stays = talk_stays }
