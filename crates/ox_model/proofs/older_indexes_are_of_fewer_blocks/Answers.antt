use Rattle.ox_model.proofs.AnswersOfStacks.{length-older_of, older_index}
use Rattle.ox_model.proofs.older_indexes_are_of_fewer_blocks.Goals as goal

pub returns-clause-many : goal.returns-clause-many
returns-clause-many c = λ machine. length-older_of machine.profile machine.kept machine.blocks

pub returns-clause-each : goal.returns-clause-each
returns-clause-each c = λ machine j less. older_index machine.profile machine.kept machine.blocks j less
