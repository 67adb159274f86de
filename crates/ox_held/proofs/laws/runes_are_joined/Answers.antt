use Rattle.ox_held.proofs.JoinedRunes.{lawful_runes, summed_runes, told_runes}
use Rattle.ox_held.proofs.laws.runes_are_joined.Goals as goal

pub returns : goal.returns
returns c = record {
  lawful = lawful_runes;
  sums = summed_runes;
  told = λ p index script sound. told_runes index p sound script;
}
