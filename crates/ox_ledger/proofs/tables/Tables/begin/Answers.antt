use Rattle.ox_ledger.specs.Tables.{runes_of}
use Rattle.ox_ledger.specs.Shown.{held_then}
use Rattle.ox_ledger.proofs.HolderLemmas.{held_same}
use Rattle.ox_ledger.proofs.TablesLemmas.{all_marks, begun}
use Rattle.ox_ledger.proofs.tables.Tables.begin.Goals as goal

pub returns-clause-now : goal.returns-clause-now
returns-clause-now c = λ i. record {
  bal = held_same c.args.self.now.holders c.begin.new.self c.begin.ensures.content i;
  runes = c.begin-2.ensures.now i;
  due = c.begin-3.ensures.now i;
}

pub returns-clause-mark : goal.returns-clause-mark
returns-clause-mark c =
    all_marks (held_then c.begin.new.self) c.begin-2.new.self.mark c.begin-3.new.self.mark (runes_of c.args.self.now)
    (begun c.args.self.now.holders c.begin.new.self c.begin.ensures.content c.begin.ensures.mark) c.begin-2.ensures.mark c.begin-3.ensures.mark
