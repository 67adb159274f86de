use Rattle.ox_name.proofs.NamesAreOneToOne.{one_to_one}
use Rattle.ox_name.proofs.letters.names_are_one_to_one.Goals as goal

pub returns : goal.returns
returns c = one_to_one
