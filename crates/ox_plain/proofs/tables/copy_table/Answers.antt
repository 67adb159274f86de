use Rattle.ox_plain.proofs.TableLemmas.{copied_next}
use Rattle.ox_rules.proofs.Orders.{outpoints_total}
use Rattle.ox_plain.proofs.tables.copy_table.Goals as goal

pub loop-at-preserved-in_ok-insert : goal.loop-at-preserved-in_ok-insert
loop-at-preserved-in_ok-insert g c =
    copied_next outpoints_total c.loop-at.copy.entries c.insert.new.self.entries c.loop-at.at-iterator c.next.new.self c.args.table.now.entries (c.in-Some.at.now, c.in-Some.row.now) c.in_ok-again.field-0
    c.iter-at-items.ensures.ordered c.in-Some.ensures.steps c.loop-at.invariant c.in_ok-again.ensures c.in_ok-insert.ensures.entries

pub loop-at-preserved : goal.loop-at-preserved
loop-at-preserved g c =
    copied_next outpoints_total c.loop-at.copy.entries c.insert.new.self.entries c.loop-at.at-iterator c.next.new.self c.args.table.now.entries (c.in-Some.at.now, c.in-Some.row.now) c.in_ok-again.field-0
    c.iter-at-items.ensures.ordered c.in-Some.ensures.steps c.loop-at.invariant c.in_ok-again.ensures c.in_ok-insert.ensures.entries
