use Rattle.std.proofs.Common.{◌≡◌}
use Rattle.ox_http.proofs.Values.{values_from}
use Rattle.ox_http.proofs.reader.first_value.Given as goal

-- no field so far has the name
abbrev pub invariant-loop-field : goal.invariant-loop-field
invariant-loop-field l =
    values_from l.name l.head l.fields 0 ≡ values_from l.name l.head l.fields l.field-index
