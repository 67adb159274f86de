use Rattle.std.proofs.Common.{◌≡◌, drop}
use Rattle.std.specs.List.{list_all}
use Rattle.std.specs.FinMap.{get}
use Rattle.ox_plain.specs.Ends.{stands}
use Rattle.ox_plain.specs.Tables.{table_of}
use Rattle.ox_plain.proofs.tables.all_stand.Given as goal

-- all stand exactly where those that are left do
abbrev pub invariant-loop-at : goal.invariant-loop-at
invariant-loop-at g l =
    list_all (λ row. stands g.X.Row.same (get (table_of l.table.entries) row.0) row.1) (drop l.at-index l.rows)
    ≡ list_all (λ row. stands g.X.Row.same (get (table_of l.table.entries) row.0) row.1) l.rows
