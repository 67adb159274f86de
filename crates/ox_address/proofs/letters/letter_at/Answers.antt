use Rattle.std.proofs.Common.{refl}
use Rattle.ox_address.specs.Address.{letter_of}
use Rattle.ox_address.proofs.letters.letter_at.Goals as goal

pub returns : goal.returns
unfolding letter_of
returns c = refl
