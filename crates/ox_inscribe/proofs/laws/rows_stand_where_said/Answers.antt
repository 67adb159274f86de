use Rattle.ox_inscribe.proofs.MoveLaws.{transfer_moves}
use Rattle.ox_inscribe.proofs.PointerLaws.{all_stand}
use Rattle.ox_inscribe.proofs.laws.rows_stand_where_said.Goals as goal

pub returns : goal.returns
returns c = λ p height txs outs after is rows. all_stand rows height txs after.moved.txs (transfer_moves p height txs outs after is)
