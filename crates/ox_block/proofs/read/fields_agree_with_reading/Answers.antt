use Rattle.ox_block.proofs.FirstFaultIsRead.{same_fault}
use Rattle.ox_block.proofs.read.fields_agree_with_reading.Goals as goal

pub returns : goal.returns
returns c = same_fault
