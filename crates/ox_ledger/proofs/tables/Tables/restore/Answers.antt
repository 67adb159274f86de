use Rattle.ox_ledger.specs.Shown.{held_in, held_then}
use Rattle.ox_ledger.proofs.HolderLemmas.{then_is, then_same}
use Rattle.ox_ledger.proofs.TablesLemmas.{all_marks, is_marked, marks_in, same_marks}
use Rattle.ox_ledger.proofs.tables.Tables.restore.Goals as goal

pub returns-clause-now : goal.returns-clause-now
returns-clause-now c =
    let old = c.args.self.now in
    let some = marks_in (held_then old.holders) old.runes.mark old.due.mark c.requires in
    all_marks (held_then old.holders) old.runes.mark old.due.mark (record { bal = held_in c.restore.new.self; runes = c.restore-2.new.self.now; due = c.restore-3.new.self.now })
    (then_is old.holders c.restore.new.self (is_marked old.holders some.0) c.restore.ensures.content) c.restore-2.ensures.now c.restore-3.ensures.now

pub returns-clause-mark : goal.returns-clause-mark
returns-clause-mark c =
    let old = c.args.self.now in
    same_marks (held_then old.holders) (held_then c.restore.new.self) old.runes.mark c.restore-2.new.self.mark old.due.mark c.restore-3.new.self.mark (then_same old.holders c.restore.new.self c.restore.ensures.mark)
    c.restore-2.ensures.mark c.restore-3.ensures.mark
