use Rattle.ox_inscribe.proofs.CountLaws.{one_for_each}
use Rattle.ox_inscribe.proofs.MoveLaws.{transfer_moves}
use Rattle.ox_inscribe.proofs.laws.each_envelope_reveals_a_row.Goals as goal

pub returns : goal.returns
returns c = λ p height txs outs after is rows. one_for_each rows height txs after.moved.txs (transfer_moves p height txs outs after is)
