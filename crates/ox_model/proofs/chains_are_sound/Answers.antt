use Rattle.ox_model.proofs.Soundness.{plain_chain, sound_chain}
use Rattle.ox_model.proofs.chains_are_sound.Goals as goal

pub returns-clause-heights : goal.returns-clause-heights
returns-clause-heights c = λ p blocks. (plain_chain p blocks).heights

pub returns-clause-outputs : goal.returns-clause-outputs
returns-clause-outputs c = λ p blocks. (plain_chain p blocks).outputs

pub returns-clause-satoshis : goal.returns-clause-satoshis
returns-clause-satoshis c = λ p blocks. (plain_chain p blocks).sats

pub returns-clause-inscriptions : goal.returns-clause-inscriptions
returns-clause-inscriptions c = λ p blocks. (plain_chain p blocks).inscriptions

pub returns-clause-whole : goal.returns-clause-whole
returns-clause-whole c = sound_chain
