use Rattle.std.proofs.Common.{◌≡◌, ◌++◌, drop}
use Rattle.std.specs.List.{filter_map}
use Rattle.ox_envelope.specs.Id.{id_of_value}
use Rattle.ox_envelope.specs.Walk.{texts}
use Rattle.ox_envelope.proofs.payload.ids.Given as goal

abbrev pub invariant-loop-value : goal.invariant-loop-value
invariant-loop-value l = l.found ++ filter_map id_of_value (texts (drop l.value-index l.values)) ≡ filter_map id_of_value (texts l.values)
