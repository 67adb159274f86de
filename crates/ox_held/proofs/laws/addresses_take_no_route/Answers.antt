use Rattle.ox_held.proofs.PathLemmas.{address_apart}
use Rattle.ox_held.proofs.laws.addresses_take_no_route.Goals as goal

pub returns : goal.returns
returns c = address_apart
