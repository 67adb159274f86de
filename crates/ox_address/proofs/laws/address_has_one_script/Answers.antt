use Rattle.ox_address.proofs.AddressLaws.{has_one_script}
use Rattle.ox_address.proofs.laws.address_has_one_script.Goals as goal

pub returns : goal.returns
returns c = has_one_script
