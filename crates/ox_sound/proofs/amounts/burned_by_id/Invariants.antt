use Rattle.std.proofs.Common.{◌≡◌, take, true}
use Rattle.ox_sound.specs.Amounts.{AreAmounts, burned_in}
use Rattle.ox_sound.specs.Rows.{ids_differ}
use Rattle.ox_sound.proofs.amounts.burned_by_id.Given as goal

abbrev pub invariant-loop-row : goal.invariant-loop-row
invariant-loop-row l = record {
  differ : ids_differ (take l.row-index l.runes) ≡ true;
  burned : AreAmounts l.amounts (burned_in (take l.row-index l.runes)) (λ id. 0);
}
