use Rattle.ox_replies.proofs.Runes.{id_named, name_named}
use Rattle.ox_replies.proofs.laws.runes_are_named.Goals as goal

pub returns-clause-id : goal.returns-clause-id
returns-clause-id c = λ p index n row sound. id_named index.runes n row sound.runes.balanced.ids

pub returns-clause-name : goal.returns-clause-name
returns-clause-name c = λ p index n row spacers sound. name_named index.runes n row spacers sound.runes.balanced.names
