use Rattle.ox_sound.proofs.KeepsRunesLemmas.{sound_after}
use Rattle.ox_sound.proofs.laws.kept_rules_leave_sound_indexes.Goals as goal

pub returns : goal.returns
returns c = λ p before change sound begun keeps. sound_after p before change sound begun keeps
