use Rattle.ox_runestone.proofs.EvenTagsLeft.{cenotaph-same}
use Rattle.ox_runestone.proofs.reading.cenotaph.Goals as goal

pub returns : goal.returns
returns c = λ list h. rw (c.mint.ensures, c.name_in.ensures, c.etching.ensures) (cenotaph-same c.args.fields.now list h)
