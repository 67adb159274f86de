use Rattle.ox_address.proofs.AddressLaws.{has_one_case}
use Rattle.ox_address.proofs.laws.address_has_one_case.Goals as goal

pub returns : goal.returns
returns c = has_one_case
