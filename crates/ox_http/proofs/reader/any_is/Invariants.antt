use Rattle.std.proofs.Common.{◌≡◌}
use Rattle.std.specs.List.{list_any}
use Rattle.std.specs.Str.{str_eq_ignore_ascii_case}
use Rattle.ox_http.proofs.Values.{values_from}
use Rattle.ox_http.proofs.reader.any_is.Given as goal

-- the fields that are left say whether a value is the text
abbrev pub invariant-loop-field : goal.invariant-loop-field
invariant-loop-field l =
    list_any (λ value. str_eq_ignore_ascii_case value l.text)
    (values_from l.name l.head l.fields 0)
    ≡ list_any (λ value. str_eq_ignore_ascii_case value l.text)
    (values_from l.name l.head l.fields l.field-index)
