use Rattle.std.proofs.Common.{◌∙◌, ap, Option}
use Rattle.ox_ledger.specs.Ledger.{mark_in, runes_in}
use Rattle.ox_outputs.specs.Table.{marked_in}
use Rattle.ox_rules.specs.Outputs.{Outputs}
use Rattle.ox_index.specs.Held.{held_then}
use Rattle.ox_index.proofs.Marks.{all_back, outs_marked, rows_marked, runes_marked, undue_none}
use Rattle.ox_index.proofs.parts.Parts.cancel.Goals as goal

pub cancel-requires : goal.cancel-requires
cancel-requires c =
    let self = c.args.self.now in
    outs_marked (marked_in self.outputs) self.shelf.mark (mark_in self.ledger) c.requires

pub cancel-requires-2 : goal.cancel-requires-2
cancel-requires-2 c =
    let self = c.args.self.now in
    rows_marked (marked_in self.outputs) self.shelf.mark (mark_in self.ledger) c.requires

pub cancel-requires-3 : goal.cancel-requires-3
cancel-requires-3 c =
    let self = c.args.self.now in
    runes_marked (marked_in self.outputs) self.shelf.mark (mark_in self.ledger) c.requires

pub invariant_of-self : goal.invariant_of-self
invariant_of-self c =
    let self = c.args.self.now in record {
      known = self.known;
      counted = c.cancel-3.ensures.profile ∙ self.counted;
      numbered = c.cancel-2.ensures.jubilee ∙ self.numbered;
      undue = self.undue_then (runes_in c.cancel-3.new.self) c.cancel-3.ensures.runes;
      undue_then = undue_none (mark_in c.cancel-3.new.self) c.cancel-3.ensures.mark;
    }

pub returns-clause-held : goal.returns-clause-held
returns-clause-held c =
    let self = c.args.self.now in
    all_back (marked_in self.outputs) self.shelf.mark (mark_in self.ledger) _ _ _ c.cancel.ensures.rows c.cancel-2.ensures.rows c.cancel-3.ensures.runes

pub returns-clause-mark : goal.returns-clause-mark
returns-clause-mark c =
    ap (λ (outs : Option Outputs). held_then outs c.cancel-2.new.self.mark (mark_in c.cancel-3.new.self)) c.cancel.ensures.spent
