use Rattle.std.proofs.Common.{◌≡◌, ◌∷◌, [], map, drop}
use Rattle.ox_envelope.specs.Payload.{first_of, values_of}
use Rattle.ox_envelope.specs.Walk.{seen_field}
use Rattle.ox_envelope.proofs.payload.first_value.Given as goal

abbrev pub invariant-loop-field : goal.invariant-loop-field
invariant-loop-field l =
    first_of (values_of (l.tag ∷ []) (map seen_field (drop l.field-index l.fields))) ≡ first_of (values_of (l.tag ∷ []) (map seen_field l.fields))
