use Rattle.ox_checkpoint.proofs.KeepLemmas.{keeps_change, keeps_index}
use Rattle.ox_checkpoint.proofs.laws.sound_data_can_be_put.Goals as goal

pub returns : goal.returns
returns c = record { index = keeps_index; change = keeps_change }
