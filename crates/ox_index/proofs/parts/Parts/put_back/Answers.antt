use Rattle.std.proofs.Common.{◌≡◌, ◌∙◌, ◌-◌, ℕ, length, take, sym, ap, arith}
use Rattle.ox_ledger.specs.Ledger.{mark_in, runes_in}
use Rattle.ox_ledger.specs.Runes.{Runes}
use Rattle.ox_outputs.specs.Table.{marked_in}
use Rattle.ox_index.specs.Held.{held_then}
use Rattle.ox_index.proofs.Marks.{outs_marked, runes_marked, undue_fallen}
use Rattle.ox_index.proofs.parts.Parts.put_back.Goals as goal

pub put-requires-clause-marked : goal.put-requires-clause-marked
put-requires-clause-marked c =
    let self = c.args.self.now in
    outs_marked (marked_in self.outputs) self.shelf.mark (mark_in self.ledger) c.requires.marked

pub put-requires-clause-ends : goal.put-requires-clause-ends
put-requires-clause-ends c = c.requires.rows

pub back-requires-clause-mark : goal.back-requires-clause-mark
back-requires-clause-mark c =
    let self = c.args.self.now in
    runes_marked (marked_in self.outputs) self.shelf.mark (mark_in self.ledger) c.requires.marked

pub invariant_of-self-in-Break-branch-2 : goal.invariant_of-self-in-Break-branch-2
invariant_of-self-in-Break-branch-2 c =
    let self = c.args.self.now in record {
      known = self.known;
      counted = c.back.ensures.profile ∙ self.counted;
      numbered = self.numbered;
      undue = undue_fallen (mark_in self.ledger) (runes_in c.back.new.self) self.undue_then c.in_err-back.ensures.err;
      undue_then = λ x is. self.undue_then x (sym c.back.ensures.mark ∙ is);
    }

pub invariant_of-self-2 : goal.invariant_of-self-2
invariant_of-self-2 c =
    let self = c.args.self.now in record {
      known = self.known;
      counted = c.back.ensures.profile ∙ self.counted;
      numbered = c.drop_last.ensures.jubilee ∙ self.numbered;
      undue = ap (λ (r : Runes). r.due) c.in_ok-back.ensures.ok;
      undue_then = λ x is. self.undue_then x (sym c.back.ensures.mark ∙ is);
    }

pub returns-clause-ok : goal.returns-clause-ok
returns-clause-ok c =
    let rows = c.args.self.now.shelf.rows in
    let last : c.min-last.result ≡ length c.args.change.now.inscriptions = omega (arith, c.min-last.ensures, c.len.ensures, c.len-2.ensures, c.requires.inscriptions) in record {
      outputs = c.in_ok-put.ensures.ok;
      inscriptions = c.drop_last.ensures.rows ∙ ap (λ (n : ℕ). take (length rows - n) rows) last;
      runes = c.in_ok-back.ensures.ok;
    }

pub returns-clause-mark : goal.returns-clause-mark
returns-clause-mark c = λ i. held_then (c.put.ensures.mark i) (c.drop_last.ensures.mark i) (c.back.ensures.mark i)
