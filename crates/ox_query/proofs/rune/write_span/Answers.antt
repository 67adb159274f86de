use Rattle.ox_query.proofs.Steps.{◌▸◌}
use Rattle.ox_query.proofs.rune.write_span.Goals as goal

pub returns : goal.returns
returns c = c.begin_array.ensures ▸ c.write_count_or_null.ensures ▸ c.write_count_or_null-2.ensures ▸ c.end_array.ensures
