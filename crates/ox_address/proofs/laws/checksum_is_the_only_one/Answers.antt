use Rattle.ox_address.proofs.ChecksumLaw.{is_the_checksum}
use Rattle.ox_address.proofs.laws.checksum_is_the_only_one.Goals as goal

pub returns : goal.returns
returns c = is_the_checksum
