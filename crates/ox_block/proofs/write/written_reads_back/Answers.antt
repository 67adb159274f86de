use Rattle.ox_block.proofs.BlockLaws.{block_again}
use Rattle.ox_block.proofs.write.written_reads_back.Goals as goal

pub returns : goal.returns
returns c = block_again
