use Rattle.std.proofs.Common.{List, Ok, Err, None, sym, ap, ◌∙◌}
use Rattle.std.specs.Int.{w32}
use Rattle.std.proofs.lemmas.Result.{err_from_is_err_and}
use Rattle.ox_bytes.specs.Reading.{number_at}
use Rattle.ox_block.specs.declared.block.OutPoint.{OutPoint}
use Rattle.ox_rules.specs.Outputs.{outpoint_cmp}
use Rattle.ox_rules.proofs.Orders.{outpoints_exact, outpoints_total}
use Rattle.ox_rows.specs.Reading.{rising_at}
use Rattle.ox_rows.specs.RowReading.{outpoint_at}
use Rattle.ox_rows.proofs.NextLaws.{fails_first, goes_on}
use Rattle.ox_rows.proofs.Collected.{has_rows, rises_as_read}
use Rattle.ox_rows.proofs.RisingLaws.{sorted_from_rises}
use Rattle.ox_rows.proofs.lists_from.table_from.Goals as goal

pub returns-in_err-count : goal.returns-in_err-count
returns-in_err-count g c =
    let p = err_from_is_err_and c.from_residual.result c.from_residual.ensures.1 in
    rw (p.1, p.2) (fails_first g.S.Source (number_at w32) (λ n. rising_at outpoint_cmp outpoint_at g.X.Readable.at None n.0 n.1) c.in_err-count.field-0.0 c.in_err-count.ensures)

pub returns-in_err-rows : goal.returns-in_err-rows
returns-in_err-rows g c =
    let p = err_from_is_err_and c.from_residual-in_err-rows.result c.from_residual-in_err-rows.ensures.1 in
    let source = g.met.S.Source in
    let fails = goes_on g.S.Source source.no_call source.then_went source.then_ended (number_at w32) (λ n. rising_at outpoint_cmp outpoint_at g.X.Readable.at None n.0 n.1) c.in_ok-count.count (Err c.in_err-rows.field-0.0) c.in_ok-count.ensures c.in_err-rows.ensures in
    rw (p.1, p.2) (record { read = fails.read; ready = tt; calls = fails.calls })

pub returns : goal.returns
returns g c = record {
  read = λ bytes ahead.
      let n = c.in_ok-count.ensures.read bytes ahead in
      let m = c.in_ok-rows.ensures.read n.0 n.1 in
      let rows = c.in_ok-rows.rows.items in
      let rises = sorted_from_rises outpoints_total rows (rises_as_read outpoint_cmp outpoint_at g.X.Readable.at c.in_ok-count.count None n.0 (rows, m.0) m.2) in
      let made = has_rows outpoints_total outpoints_exact rows c.in_ok-table_of.field-0 rises c.in_ok-table_of.ensures in
      (m.0, m.1, rw n.2 (m.2 ∙ ap (λ (es : List (OutPoint × g.row.X.Denot)). Ok (es, m.0)) (sym made)));
  ready = c.in_ok-rows.ensures.ready;
  calls = g.met.S.Source.then_went _ _ _ _ _ _ c.in_ok-count.ensures.calls c.in_ok-rows.ensures.calls;
}
