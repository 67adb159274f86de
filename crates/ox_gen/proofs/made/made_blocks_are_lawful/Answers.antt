use Rattle.ox_gen.proofs.LawfulBlocks.{lawful, reads_back}
use Rattle.ox_gen.proofs.made.made_blocks_are_lawful.Goals as goal

pub returns-clause-lawful : goal.returns-clause-lawful
returns-clause-lawful c = lawful

pub returns-clause-read : goal.returns-clause-read
returns-clause-read c = reads_back
