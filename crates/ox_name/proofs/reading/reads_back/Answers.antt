use Rattle.ox_name.proofs.NamesReadBack.{all_read_back}
use Rattle.ox_name.proofs.reading.reads_back.Goals as goal

pub returns : goal.returns
returns c = all_read_back
