use Rattle.ox_checkpoint.proofs.AgainLemmas.{body_stands, change_stands}
use Rattle.ox_checkpoint.proofs.laws.what_is_spelled_stands.Goals as goal

pub returns : goal.returns
returns c = record { body = body_stands; change = change_stands }
