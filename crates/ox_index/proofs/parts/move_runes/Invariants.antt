use Rattle.std.proofs.Common.{◌≡◌}
use Rattle.ox_ledger.specs.Ledger.{mark_in, runes_in}
use Rattle.ox_model.proofs.FreePlaces.{IsOpen}
use Rattle.ox_index.proofs.Turning.{turns_from}
use Rattle.ox_index.proofs.parts.move_runes.Given as goal

-- what is still to be done leads where the whole block does
abbrev pub invariant-loop-place : goal.invariant-loop-place
invariant-loop-place l = record {
  rest : turns_from l.initial.ledger.profile l.height 0 l.txs l.all (runes_in l.initial.ledger) ≡ turns_from l.initial.ledger.profile l.height l.place l.txs l.all (runes_in l.ledger);
  free : IsOpen l.initial.ledger.profile l.height l.place (runes_in l.ledger).runes;
  mark : mark_in l.ledger ≡ mark_in l.initial.ledger;
  profile : l.ledger.profile ≡ l.initial.ledger.profile;
}
