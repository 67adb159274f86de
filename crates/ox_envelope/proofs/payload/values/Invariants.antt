use Rattle.std.proofs.Common.{◌≡◌, ◌∷◌, ◌++◌, [], map, drop}
use Rattle.ox_envelope.specs.Payload.{values_of}
use Rattle.ox_envelope.specs.Walk.{seen_field, texts}
use Rattle.ox_envelope.proofs.payload.values.Given as goal

abbrev pub invariant-loop-field : goal.invariant-loop-field
invariant-loop-field l =
    texts l.found.items ++ values_of (l.tag ∷ []) (map seen_field (drop l.field-index l.fields)) ≡ values_of (l.tag ∷ []) (map seen_field l.fields)
