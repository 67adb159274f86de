use Rattle.std.proofs.Common.{◌∙◌, ◌+◌, List, ◌++◌, drop, sym, ap}
use Rattle.std.specs.BTreeMap.{BTreeMap}
use Rattle.std.specs.FinMap.{is_sorted}
use Rattle.ox_block.specs.declared.block.OutPoint.{OutPoint}
use Rattle.ox_rules.specs.declared.rows.OutRow.{OutRow}
use Rattle.ox_rules.specs.Outputs.{outpoint_cmp}
use Rattle.ox_rules.proofs.Orders.{outpoints_total}
use Rattle.ox_index.proofs.Filling.{below_next, one_done, put_last, with_next}
use Rattle.ox_index.proofs.Holding.{not_within}
use Rattle.ox_index.proofs.live.plain.table_of.Goals as goal
use Rattle.ox_index.proofs.live.plain.table_of.Goals.{in-Some+in_ok-put_row, in_default}

pub loop-n-preserved : goal.loop-n-preserved
loop-n-preserved c =
    let order = c.args.order.now in
    let done = c.loop-n.table.entries in
    elim c.match-get.branch [
      | in-Some+in_ok-put_row w ↦
          let there = sym w.in-Some.ensures in
          let whole = with_next order done c.loop-n.n c.loop-n.invariant (w.in-Some.at.now, w.in-Some.row.now) there in
          let below = below_next outpoint_cmp done (w.in-Some.at.now, w.in-Some.row.now) (drop (c.loop-n.n + 1) order) (ap (is_sorted outpoint_cmp) whole ∙ c.requires) in
          ap (λ (t : BTreeMap OutPoint OutRow). t.entries ++ drop (c.loop-n.n + 1) order) w.table-is
          ∙ ap (λ (es : List (OutPoint × OutRow)). es ++ drop (c.loop-n.n + 1) order) (w.in_ok-put_row.ensures ∙ put_last outpoint_cmp outpoints_total done w.in-Some.at.now w.in-Some.row.now below)
          ∙ one_done order done c.loop-n.n c.loop-n.invariant (w.in-Some.at.now, w.in-Some.row.now) there
      | in_default w ↦ absurd (not_within order c.loop-n.n c.len-n-end.result c.len-n-end.ensures c.loop-n-test.true w.in_default.ensures)
    ]
