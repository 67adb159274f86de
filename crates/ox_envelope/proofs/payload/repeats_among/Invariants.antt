use Rattle.std.proofs.Common.{◌≡◌, drop, map}
use Rattle.ox_envelope.specs.Payload.{has_repeat, single_tags}
use Rattle.ox_envelope.specs.Walk.{seen_field}
use Rattle.ox_envelope.proofs.PayloadLemmas.{repeats_with}
use Rattle.ox_envelope.proofs.payload.repeats_among.Given as goal

abbrev pub invariant-loop-field : goal.invariant-loop-field
invariant-loop-field l = repeats_with l.known.keys (single_tags (map seen_field (drop l.field-index l.fields))) ≡ has_repeat (single_tags (map seen_field l.fields))
