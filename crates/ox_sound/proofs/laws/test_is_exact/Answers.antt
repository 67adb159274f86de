use Rattle.ox_sound.proofs.SoundLemmas.{Decides-sound}
use Rattle.ox_sound.proofs.laws.test_is_exact.Goals as goal

pub returns : goal.returns
returns c = λ p index. Decides-sound p index
