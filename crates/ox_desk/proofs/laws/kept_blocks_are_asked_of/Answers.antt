use Rattle.ox_desk.proofs.KeptBlocks.{asked_each, asked_many}
use Rattle.ox_desk.proofs.laws.kept_blocks_are_asked_of.Goals as goal

pub returns : goal.returns
returns c = record { many = asked_many; each = asked_each }
