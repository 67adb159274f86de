use Rattle.ox_drill.proofs.Commands.{all_accepted, machine_after, stack_after_all}
use Rattle.ox_drill.proofs.laws.drills_are_accepted.Goals as goal

pub returns-clause-accepted : goal.returns-clause-accepted
returns-clause-accepted c = all_accepted

pub returns-clause-machine : goal.returns-clause-machine
returns-clause-machine c = machine_after

pub returns-clause-stack : goal.returns-clause-stack
returns-clause-stack c = stack_after_all
