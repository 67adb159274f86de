use Rattle.ox_varint.proofs.GrammarLaws.{varint_at-varint}
use Rattle.ox_varint.proofs.reads_back.Goals as goal

pub returns : goal.returns
returns c = varint_at-varint
