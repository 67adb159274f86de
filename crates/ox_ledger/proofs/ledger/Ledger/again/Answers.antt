use Rattle.std.proofs.Common.{◌∙◌, ap, is_some, subst, sym}
use Rattle.ox_ledger.specs.Balanced.{Balanced}
use Rattle.ox_ledger.specs.Tables.{mark_of, runes_of}
use Rattle.ox_ledger.proofs.LedgerLemmas.{fallen}
use Rattle.ox_ledger.proofs.PartMoves.{again_balanced}
use Rattle.ox_ledger.proofs.ledger.Ledger.again.Goals as goal

pub invariant_of-self : goal.invariant_of-self
invariant_of-self c = record {
  balanced = again_balanced c.args.part.now (runes_of c.args.self.now.tables) (runes_of c.again.new.self) c.requires.begins c.in-Ok.ensures.ok;
  balanced_then = λ x is. c.args.self.now.balanced_then x (sym c.again.ensures.mark ∙ is);
  known = c.args.self.now.known ∙ ap is_some (sym c.again.ensures.mark);
}

pub invariant_of-self-in-Err : goal.invariant_of-self-in-Err
invariant_of-self-in-Err c = record {
  balanced = subst Balanced (sym c.fall_back.ensures.now) (fallen (mark_of c.again.new.self) (λ x is. c.args.self.now.balanced_then x (sym c.again.ensures.mark ∙ is)));
  balanced_then = λ x is. c.args.self.now.balanced_then x (sym c.again.ensures.mark ∙ (sym c.fall_back.ensures.mark ∙ is));
  known = c.args.self.now.known ∙ ap is_some (sym c.again.ensures.mark ∙ sym c.fall_back.ensures.mark);
}
