use Rattle.std.proofs.Common.{ap}
use Rattle.ox_ledger.specs.Ledger.{mark_in}
use Rattle.ox_ledger.specs.Runes.{Runes}
use Rattle.ox_index.proofs.Marks.{undue_none}
use Rattle.ox_index.proofs.parts.Parts.new.Goals as goal

pub invariant_of-result : goal.invariant_of-result
invariant_of-result c = record {
  known = c.requires;
  counted = c.in_ok-ledger.ensures.profile;
  numbered = c.new-3.ensures.jubilee;
  undue = ap (λ (r : Runes). r.due) c.in_ok-ledger.ensures.runes;
  undue_then = undue_none (mark_in c.in_ok-ledger.ledger) c.in_ok-ledger.ensures.mark;
}
