use Rattle.ox_envelope.proofs.PayloadLemmas.{no_repeat}
use Rattle.ox_envelope.proofs.payload.has_repeat.Goals as goal

pub returns-in-empty : goal.returns-in-empty
returns-in-empty c = no_repeat c.args.fields.now c.in-empty.len_below
