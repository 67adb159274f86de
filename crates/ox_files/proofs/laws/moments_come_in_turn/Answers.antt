use Rattle.ox_files.proofs.Coming.{come, stay, one_by_one}
use Rattle.ox_files.proofs.laws.moments_come_in_turn.Goals as goal

pub returns : goal.returns
returns c = record { come = come; stay = stay; one_by_one = one_by_one }
