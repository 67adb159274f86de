use Rattle.std.proofs.Common.{◌≡◌, map, drop}
use Rattle.std.specs.List.{list_any}
use Rattle.ox_envelope.specs.Payload.{is_unknown_even}
use Rattle.ox_envelope.specs.Walk.{seen_field}
use Rattle.ox_envelope.proofs.payload.any_unknown_even.Given as goal

abbrev pub invariant-loop-field : goal.invariant-loop-field
invariant-loop-field l =
    list_any (λ field. is_unknown_even field.tag) (map seen_field (drop l.field-index l.fields)) ≡ list_any (λ field. is_unknown_even field.tag) (map seen_field l.fields)
