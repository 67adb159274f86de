use Rattle.std.proofs.Common.{◌∙◌, ap}
use Rattle.std.proofs.lemmas.Result.{on_ok_weaker}
use Rattle.ox_ledger.specs.Ledger.{mark_in, runes_in}
use Rattle.ox_ledger.specs.Runes.{Runes}
use Rattle.ox_index.specs.Held.{held_then}
use Rattle.ox_index.proofs.Marks.{undue_begun}
use Rattle.ox_index.proofs.parts.Parts.begin.Goals as goal

pub invariant_of-self : goal.invariant_of-self
invariant_of-self c =
    let self = c.args.self.now in record {
      known = self.known;
      counted = c.begin-2.ensures.profile ∙ self.counted;
      numbered = c.begin.ensures.jubilee ∙ self.numbered;
      undue = ap (λ (r : Runes). r.due) c.begin-2.ensures.runes ∙ self.undue;
      undue_then = undue_begun (mark_in c.begin-2.new.self) (runes_in self.ledger) c.begin-2.ensures.mark self.undue;
    }

pub returns-clause-ok : goal.returns-clause-ok
returns-clause-ok c =
    on_ok_weaker c.begin-3.result (λ outs i. held_then (outs i) (c.begin.ensures.mark i) (c.begin-2.ensures.mark i)) c.begin-3.ensures.ok
