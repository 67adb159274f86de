use Rattle.std.proofs.Common.{List, Ok, None, sym, ap, ◌∙◌}
use Rattle.ox_block.specs.declared.block.OutPoint.{OutPoint}
use Rattle.ox_rules.specs.Outputs.{outpoint_cmp}
use Rattle.ox_rules.proofs.Orders.{outpoints_exact, outpoints_total}
use Rattle.ox_rows.specs.RowReading.{outpoint_at}
use Rattle.ox_rows.proofs.Collected.{has_rows, rises_as_read}
use Rattle.ox_rows.proofs.RisingLaws.{sorted_from_rises}
use Rattle.ox_rows.proofs.tables.rising_table_of.Goals as goal

pub returns : goal.returns
returns g c =
    let rows = c.in_ok-rows.rows.items in
    let rest = c.in_ok-rows.rest.now in
    let rises = sorted_from_rises outpoints_total rows (rises_as_read outpoint_cmp outpoint_at g.X.Readable.at c.args.count None c.args.bytes.now (rows, rest) c.in_ok-rows.ensures) in
    let made = has_rows outpoints_total outpoints_exact rows c.in_ok-table_of.field-0 rises c.in_ok-table_of.ensures in
    c.in_ok-rows.ensures ∙ ap (λ (es : List (OutPoint × g.row.X.Denot)). Ok (es, rest)) (sym made)
