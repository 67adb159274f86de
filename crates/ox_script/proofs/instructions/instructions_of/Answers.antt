use Rattle.ox_script.proofs.PartLemmas.{all_parts}
use Rattle.ox_script.proofs.instructions.instructions_of.Goals as goal

pub returns-clause-parts : goal.returns-clause-parts
returns-clause-parts c = all_parts c.args.script.now
