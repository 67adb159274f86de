use Rattle.std.proofs.Common.{subst, List}
use Rattle.std.specs.Option.{ForSome}
use Rattle.ox_range.specs.declared.runs.Run.{Run}
use Rattle.ox_range_index.specs.Index.{AreTablesOf}
use Rattle.ox_range_index.proofs.CountLaws.{runs_fit}
use Rattle.ox_range_index.proofs.index.RangeIndex.new.Goals as goal

pub invariant_of-result : goal.invariant_of-result
invariant_of-result c = record {
  whole = c.len-len.ensures;
  searched = subst (λ (runs : List Run). ForSome c.in_ok-tables.tables (AreTablesOf runs)) c.runs.ensures.exact c.in_ok-tables.ensures;
}

pub tables_of-requires-clause-fits : goal.tables_of-requires-clause-fits
tables_of-requires-clause-fits c = runs_fit c.args.ranges.now c.runs.result.now c.len-len.result c.runs.ensures.numbers c.len-len.ensures c.len-len.type_inv
