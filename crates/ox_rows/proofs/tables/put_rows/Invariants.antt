use Rattle.std.proofs.Common.{◌≡◌, ◌++◌}
use Rattle.std.specs.List.{AllByRecursion, flat_map}
use Rattle.ox_block.specs.Spelling.{outpoint}
use Rattle.ox_rows.specs.RowFits.{FitsOutPoint}
use Rattle.ox_rows.proofs.tables.put_rows.Given as goal

-- those so far have been put and fit, and those to come keep to the form
abbrev pub invariant-loop-at : goal.invariant-loop-at
invariant-loop-at g l = record {
  put : l.bytes ++ flat_map (λ e. outpoint e.0 ++ g.X.Writable.spelling e.1) l.at-iterator ≡ l.fn.bytes ++ flat_map (λ e. outpoint e.0 ++ g.X.Writable.spelling e.1) l.table.entries;
  fit : AllByRecursion (λ e. FitsOutPoint e.0 × g.X.Writable.fits e.1) l.at-iterator → AllByRecursion (λ e. FitsOutPoint e.0 × g.X.Writable.fits e.1) l.table.entries;
  keep : AllByRecursion (λ e. g.X.Writable.keeps e.1) l.at-iterator;
}
