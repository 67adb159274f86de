use Rattle.std.proofs.Common.{◌≡◌}
use Rattle.std.specs.List.{list_all}
use Rattle.std.specs.Str.{bytes_eq}
use Rattle.ox_http.proofs.Values.{values_from}
use Rattle.ox_http.proofs.reader.all_are.Given as goal

-- the fields that are left say whether all values are the text
abbrev pub invariant-loop-field : goal.invariant-loop-field
invariant-loop-field l =
    list_all (bytes_eq l.text) (values_from l.name l.head l.fields 0)
    ≡ list_all (bytes_eq l.text) (values_from l.name l.head l.fields l.field-index)
