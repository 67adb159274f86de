use Rattle.std.proofs.Common.{◌∙◌, sym, ap}
use Rattle.std.proofs.lemmas.Result.{on_ok_weaker}
use Rattle.ox_inscribe.specs.declared.row.InsRow.{InsRow}
use Rattle.std.specs.Prelude.{List, ◌++◌}
use Rattle.ox_ledger.specs.Ledger.{mark_in, runes_in}
use Rattle.ox_ledger.specs.Runes.{Runes}
use Rattle.ox_outputs.specs.Table.{marked_in}
use Rattle.ox_index.specs.Held.{held_then}
use Rattle.ox_index.proofs.Marks.{outs_marked, runes_marked, undue_fallen}
use Rattle.ox_index.proofs.parts.Parts.put_again.Goals as goal

pub put-requires-clause-marked : goal.put-requires-clause-marked
put-requires-clause-marked c =
    let self = c.args.self.now in
    outs_marked (marked_in self.outputs) self.shelf.mark (mark_in self.ledger) c.requires.marked

pub again-requires-clause-mark : goal.again-requires-clause-mark
again-requires-clause-mark c =
    let self = c.args.self.now in
    runes_marked (marked_in self.outputs) self.shelf.mark (mark_in self.ledger) c.requires.marked

pub invariant_of-self-in-Break-branch-2 : goal.invariant_of-self-in-Break-branch-2
invariant_of-self-in-Break-branch-2 c =
    let self = c.args.self.now in record {
      known = self.known;
      counted = c.again.ensures.profile ∙ self.counted;
      numbered = self.numbered;
      undue = undue_fallen (mark_in self.ledger) (runes_in c.again.new.self) self.undue_then c.in_err-again.ensures.err;
      undue_then = λ x is. self.undue_then x (sym c.again.ensures.mark ∙ is);
    }

pub invariant_of-self-2 : goal.invariant_of-self-2
invariant_of-self-2 c =
    let self = c.args.self.now in record {
      known = self.known;
      counted = c.again.ensures.profile ∙ self.counted;
      numbered = c.append.ensures.jubilee ∙ self.numbered;
      undue = ap (λ (r : Runes). r.due) c.in_ok-again.ensures.ok;
      undue_then = λ x is. self.undue_then x (sym c.again.ensures.mark ∙ is);
    }

pub returns-clause-ok : goal.returns-clause-ok
returns-clause-ok c =
    let self = c.args.self.now in
    on_ok_weaker c.append.result (λ rows. record {
      outputs = c.in_ok-put.ensures.ok;
      inscriptions = rows ∙ ap (λ (l : List InsRow). self.shelf.rows ++ l) c.as_slice.ensures;
      runes = c.in_ok-again.ensures.ok;
    }) c.append.ensures.ok

pub returns-clause-mark : goal.returns-clause-mark
returns-clause-mark c = λ i. held_then (c.put.ensures.mark i) (c.append.ensures.mark i) (c.again.ensures.mark i)
