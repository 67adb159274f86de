use Rattle.ox_query.proofs.Steps.{◌▸◌}
use Rattle.ox_query.proofs.pages.write_page_end.Goals as goal

pub returns : goal.returns
returns c = c.key.ensures ▸ c.boolean.ensures ▸ c.key-2.ensures ▸ c.u64.ensures
