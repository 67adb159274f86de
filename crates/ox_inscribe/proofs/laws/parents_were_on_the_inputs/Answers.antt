use Rattle.ox_inscribe.specs.Origins.{HasParents, Origin, rows_before}
use Rattle.ox_inscribe.proofs.MoveLaws.{transfer_moves}
use Rattle.ox_inscribe.proofs.ParentLaws.{has_parents}
use Rattle.ox_inscribe.proofs.PlaceLaws.{all_new}
use Rattle.ox_inscribe.proofs.laws.parents_were_on_the_inputs.Goals as goal

pub returns : goal.returns
returns c = λ p height txs outs after is rows.
    all_new (λ (origin : Origin). HasParents (rows_before rows height txs after.moved.txs origin.place) origin) rows height txs after.moved.txs (transfer_moves p height txs outs after is) (has_parents rows height txs after.moved.txs)
