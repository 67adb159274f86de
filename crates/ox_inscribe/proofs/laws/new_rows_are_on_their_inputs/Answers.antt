use Rattle.ox_inscribe.specs.Origins.{IsPlaced}
use Rattle.ox_inscribe.proofs.MoveLaws.{transfer_moves}
use Rattle.ox_inscribe.proofs.PlaceLaws.{all_new, is_placed}
use Rattle.ox_inscribe.proofs.laws.new_rows_are_on_their_inputs.Goals as goal

pub returns : goal.returns
returns c = λ p height txs outs after is rows.
    all_new IsPlaced rows height txs after.moved.txs (transfer_moves p height txs outs after is) (is_placed rows height txs after.moved.txs)
