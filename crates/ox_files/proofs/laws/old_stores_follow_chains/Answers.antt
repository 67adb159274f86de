use Rattle.ox_files.proofs.OldChains.{have_chain}
use Rattle.ox_files.proofs.laws.old_stores_follow_chains.Goals as goal

pub returns : goal.returns
returns c = have_chain
