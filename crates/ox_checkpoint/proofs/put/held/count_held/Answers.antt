use Rattle.std.proofs.Common.{◌∙◌, List, length, sym, ap, arith}
use Rattle.std.specs.Prelude.{◌==◌, if◌then◌else◌}
use Rattle.std.proofs.lemmas.List.{take_all}
use Rattle.ox_block.specs.declared.block.OutPoint.{OutPoint}
use Rattle.ox_rules.specs.declared.rows.OutRow.{OutRow}
use Rattle.ox_allocation.specs.Balances.{Balance}
use Rattle.ox_index.specs.Live.{index_in}
use Rattle.ox_checkpoint.specs.Held.{held_by}
use Rattle.ox_checkpoint.proofs.HeldLemmas.{none_hold, one_holds}
use Rattle.ox_checkpoint.proofs.PutLemmas.{not_past}
use Rattle.ox_checkpoint.proofs.put.held.count_held.Goals as goal
use Rattle.ox_checkpoint.proofs.put.held.count_held.Goals.{in-Some, in_default}

pub loop-n-init : goal.loop-n-init
loop-n-init c = none_hold (index_in c.args.live.now).bal c.args.order.now

pub loop-n-preserved : goal.loop-n-preserved
loop-n-preserved c =
    let bal = (index_in c.args.live.now).bal in
    let order = c.args.order.now in
    elim c.match-get.branch [
      | in-Some w ↦
          rw w.count-is (one_holds bal order c.loop-n.n c.loop-n.count w.count_at-count.result w.in-Some.at.now w.in-Some.field-0-1.now c.loop-n.invariant (sym w.in-Some.ensures)
          (w.count_at-count.ensures ∙ ap (λ (held : List Balance). if length held == 0 then 0 else 1) w.balance.ensures))
      | in_default w ↦ absurd (not_past order c.loop-n.n c.len-n-end.result c.len-n-end.ensures c.loop-n-test.true w.in_default.ensures)
    ]

pub returns : goal.returns
returns c =
    let bal = (index_in c.args.live.now).bal in
    c.loop-n.invariant.counted
    ∙ ap (λ (rows : List (OutPoint × OutRow)). length (held_by bal rows)) (take_all c.loop-n.n c.args.order.now (omega (arith, c.loop-n-test.false, c.len-n-end.ensures)))
