use Rattle.std.proofs.Common.{ap, is_some, subst, sym}
use Rattle.ox_ledger.specs.Balanced.{Balanced}
use Rattle.ox_ledger.specs.Tables.{mark_of}
use Rattle.ox_ledger.proofs.LedgerLemmas.{no_mark_balanced}
use Rattle.ox_ledger.proofs.StartBalanced.{start_balanced}
use Rattle.ox_ledger.proofs.ledger.Ledger.new.Goals as goal

pub invariant_of-result : goal.invariant_of-result
invariant_of-result c = record {
  balanced = subst Balanced (sym c.in_ok-tables.ensures.runes) (start_balanced c.args.p.now);
  balanced_then = no_mark_balanced (mark_of c.in_ok-tables.tables) c.in_ok-tables.ensures.mark;
  known = sym (ap is_some c.in_ok-tables.ensures.mark);
}
