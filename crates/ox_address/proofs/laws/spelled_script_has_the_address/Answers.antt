use Rattle.ox_address.proofs.SpelledLaws.{is_found}
use Rattle.ox_address.proofs.laws.spelled_script_has_the_address.Goals as goal

pub returns : goal.returns
returns c = is_found
