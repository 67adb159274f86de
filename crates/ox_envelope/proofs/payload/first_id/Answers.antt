use Rattle.std.proofs.Common.{sym, ◌∙◌}
use Rattle.ox_envelope.proofs.PayloadLemmas.{first_id-of}
use Rattle.ox_envelope.proofs.payload.first_id.Goals as goal

pub returns : goal.returns
returns c = c.read_id.ensures ∙ sym (first_id-of _ c.in_ok-first_value.field-0.now c.in_ok-first_value.ensures)
