use Rattle.ox_envelope.proofs.SpellingLemmas.{all_spelled}
use Rattle.ox_envelope.proofs.laws.fields_spell_the_pushes.Goals as goal

pub returns : goal.returns
returns c = all_spelled
