use Rattle.std.proofs.Common.{◌∙◌, List, ap}
use Rattle.std.specs.FinMap.{from_entries}
use Rattle.ox_block.specs.declared.block.OutPoint.{OutPoint}
use Rattle.ox_rules.specs.declared.rows.OutRow.{OutRow}
use Rattle.ox_outputs.specs.Table.{rows_in}
use Rattle.ox_index.proofs.Holding.{entries_rise, from_its_entries, ordered}
use Rattle.ox_index.proofs.live.plain.tables_of.Goals as goal

pub table_of-requires : goal.table_of-requires
table_of-requires c = entries_rise c.in_ok-order.order (rows_in c.args.outputs.now) c.in_ok-order.ensures

pub balances_of-requires : goal.balances_of-requires
balances_of-requires c = λ at held. ordered (rows_in c.args.outputs.now) c.in_ok-order.order c.in_ok-order.ensures at (c.requires at held)

pub returns-clause-outs : goal.returns-clause-outs
returns-clause-outs c =
    ap (λ (es : List (OutPoint × OutRow)). from_entries es) (c.in_ok-outs.ensures ∙ c.in_ok-order.ensures) ∙ from_its_entries (rows_in c.args.outputs.now)

pub returns-clause-balances : goal.returns-clause-balances
returns-clause-balances c = c.in_ok-bal.ensures
