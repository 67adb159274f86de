use Rattle.std.proofs.Common.{◌≡◌, drop}
use Rattle.std.specs.List.{list_all}
use Rattle.std.specs.FinMap.{find, get}
use Rattle.ox_rules.specs.Outputs.{outpoint_cmp}
use Rattle.ox_plain.specs.Ends.{gave_way}
use Rattle.ox_plain.specs.Tables.{table_of}
use Rattle.ox_plain.proofs.tables.all_gave_way.Given as goal

-- all gave way exactly where those that are left did
abbrev pub invariant-loop-at : goal.invariant-loop-at
invariant-loop-at g l =
    list_all (λ row. gave_way g.X.Row.same (get (table_of l.table.entries) row.0) (find outpoint_cmp row.0 l.came) row.1) (drop l.at-index l.rows)
    ≡ list_all (λ row. gave_way g.X.Row.same (get (table_of l.table.entries) row.0) (find outpoint_cmp row.0 l.came) row.1) l.rows
