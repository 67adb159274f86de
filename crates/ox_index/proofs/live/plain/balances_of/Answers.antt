use Rattle.std.proofs.Common.{◌∙◌, List, sym, ap, subst, arith}
use Rattle.std.specs.BTreeMap.{BTreeMap}
use Rattle.std.specs.FinMap.{from_entries}
use Rattle.ox_block.specs.declared.block.OutPoint.{OutPoint}
use Rattle.ox_allocation.specs.Balances.{Balance}
use Rattle.ox_allocation.specs.Dealing.{IsPool}
use Rattle.ox_ledger.specs.Ledger.{runes_in}
use Rattle.ox_index.specs.Tables.{with_some}
use Rattle.ox_index.proofs.Holding.{has_all, has_more, has_none, held_fits, not_within}
use Rattle.ox_index.proofs.live.plain.balances_of.Goals as goal
use Rattle.ox_index.proofs.live.plain.balances_of.Goals.{in-Some+in_ok-put_held, in_default}

pub loop-n-init : goal.loop-n-init
loop-n-init c = has_none c.args.order.now (runes_in c.args.ledger.now).bal c.new-table.result.entries c.new-table.ensures.empty

pub put_held-requires : goal.put_held-requires
put_held-requires c =
    subst IsPool (sym c.balance.ensures) (held_fits c.args.order.now (runes_in c.args.ledger.now) c.args.ledger.now.balanced c.in-Some.at.now)

pub loop-n-preserved : goal.loop-n-preserved
loop-n-preserved c =
    let order = c.args.order.now in
    elim c.match-get.branch [
      | in-Some+in_ok-put_held w ↦
          has_more order (runes_in c.args.ledger.now) c.args.ledger.now.balanced c.loop-n.n w.in-Some.at.now w.in-Some.field-0-1.now (from_entries c.loop-n.table.entries) (from_entries c.match-get.table.entries)
          c.loop-n.invariant (sym w.in-Some.ensures)
          (ap (λ (t : BTreeMap OutPoint (List Balance)). from_entries t.entries) w.table-is
          ∙ w.in_ok-put_held.ensures
          ∙ ap (with_some (from_entries c.loop-n.table.entries) w.in-Some.at.now) w.balance.ensures)
      | in_default w ↦ absurd (not_within order c.loop-n.n c.len-n-end.result c.len-n-end.ensures c.loop-n-test.true w.in_default.ensures)
    ]

pub returns : goal.returns
returns c =
    has_all c.args.order.now (runes_in c.args.ledger.now) c.args.ledger.now.balanced c.loop-n.n (from_entries c.loop-n.table.entries) c.requires c.loop-n.invariant
    (omega (arith, c.loop-n-test.false, c.len-n-end.ensures))
