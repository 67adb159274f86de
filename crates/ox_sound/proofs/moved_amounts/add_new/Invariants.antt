use Rattle.std.proofs.Common.{◌≡◌, ◌+◌, take}
use Rattle.ox_runestone.specs.declared.stone.RuneId.{RuneId}
use Rattle.ox_etching.specs.declared.row.RuneRow.{RuneRow}
use Rattle.ox_ledger.specs.Balanced.{made_of}
use Rattle.ox_sound.specs.Amounts.{amount_at}
use Rattle.ox_sound.specs.Keeps.{sum_new}
use Rattle.ox_sound.proofs.moved_amounts.add_new.Given as goal

-- what was added so far
abbrev pub invariant-loop-row : goal.invariant-loop-row
invariant-loop-row l = record {
  coming : (other : RuneId) → amount_at l.coming other ≡ amount_at l.initial.coming other + sum_new (λ (row : RuneRow). row.burned) (take l.row-index l.appended) other;
  going : (other : RuneId) → amount_at l.going other ≡ amount_at l.initial.going other + sum_new made_of (take l.row-index l.appended) other;
}
