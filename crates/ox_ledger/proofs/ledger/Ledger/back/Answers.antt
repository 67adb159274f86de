use Rattle.std.proofs.Common.{◌∙◌, ap, is_some, subst, sym}
use Rattle.ox_ledger.specs.Balanced.{Balanced}
use Rattle.ox_ledger.specs.Tables.{mark_of, runes_of}
use Rattle.ox_ledger.proofs.LedgerLemmas.{fallen}
use Rattle.ox_ledger.proofs.PartMoves.{back_balanced}
use Rattle.ox_ledger.proofs.ledger.Ledger.back.Goals as goal

pub invariant_of-self : goal.invariant_of-self
invariant_of-self c = record {
  balanced = back_balanced c.args.part.now (runes_of c.args.self.now.tables) (runes_of c.back.new.self) c.requires.ends c.in-Ok.ensures.ok;
  balanced_then = λ x is. c.args.self.now.balanced_then x (sym c.back.ensures.mark ∙ is);
  known = c.args.self.now.known ∙ ap is_some (sym c.back.ensures.mark);
}

pub invariant_of-self-in-Err : goal.invariant_of-self-in-Err
invariant_of-self-in-Err c = record {
  balanced = subst Balanced (sym c.fall_back.ensures.now) (fallen (mark_of c.back.new.self) (λ x is. c.args.self.now.balanced_then x (sym c.back.ensures.mark ∙ is)));
  balanced_then = λ x is. c.args.self.now.balanced_then x (sym c.back.ensures.mark ∙ (sym c.fall_back.ensures.mark ∙ is));
  known = c.args.self.now.known ∙ ap is_some (sym c.back.ensures.mark ∙ sym c.fall_back.ensures.mark);
}
