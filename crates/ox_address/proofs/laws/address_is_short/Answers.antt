use Rattle.ox_address.proofs.AddressLaws.{is_short}
use Rattle.ox_address.proofs.laws.address_is_short.Goals as goal

pub returns : goal.returns
returns c = is_short
