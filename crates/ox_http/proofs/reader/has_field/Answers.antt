-- There is a first value or none.
use Rattle.std.proofs.Common.{◌∙◌}
use Rattle.ox_http.proofs.Fields.{some_first}
use Rattle.ox_http.proofs.reader.has_field.Goals as goal

pub returns : goal.returns
returns c =
    c.is_some.ensures ∙ some_first (λ v. v.now) c.first_value.result _ c.first_value.ensures
