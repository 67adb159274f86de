use Rattle.ox_asof.proofs.Replying.{command_uncut}
use Rattle.ox_asof.proofs.laws.commands_name_no_block.Goals as goal

pub returns : goal.returns
returns c = command_uncut
