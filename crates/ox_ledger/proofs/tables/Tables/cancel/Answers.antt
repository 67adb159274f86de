use Rattle.ox_ledger.specs.Shown.{held_in, held_then}
use Rattle.ox_ledger.proofs.HolderLemmas.{then_is}
use Rattle.ox_ledger.proofs.TablesLemmas.{all_marks, is_marked, marks_in}
use Rattle.ox_ledger.proofs.tables.Tables.cancel.Goals as goal

pub returns-clause-now : goal.returns-clause-now
returns-clause-now c =
    let old = c.args.self.now in
    let some = marks_in (held_then old.holders) old.runes.mark old.due.mark c.requires in
    all_marks (held_then old.holders) old.runes.mark old.due.mark (record { bal = held_in c.cancel.new.self; runes = c.cancel-2.new.self.now; due = c.cancel-3.new.self.now })
    (then_is old.holders c.cancel.new.self (is_marked old.holders some.0) c.cancel.ensures.content) c.cancel-2.ensures.now c.cancel-3.ensures.now
