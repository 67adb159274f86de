use Rattle.std.proofs.Common.{rules}
use Rattle.std.specs.BTreeMap.{IsFromIterResult}
use Rattle.std.proofs.lemmas.Iterator.Adapters.{YieldsList-from_vec, fact_from_collect}
use Rattle.ox_rules.specs.Outputs.{outpoint_cmp}
use Rattle.ox_rows.proofs.tables.table_of.Goals as goal

-- the vector gives each of its rows
pub returns : goal.returns
returns g c =
    let all = YieldsList-from_vec {s = c.into_iter.result} c.args.rows.items (search rules) (search rules) in
    fact_from_collect (IsFromIterResult outpoint_cmp) c.collect.result c.collect.ensures.ran all
