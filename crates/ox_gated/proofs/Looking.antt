-- Calls that only look, one after the other, and what is answered behind them.
use Rattle.std.specs.Prelude.{Result, Ok}
use Rattle.ox_outside.proofs.Calls.{looks_then}
use Rattle.ox_outside.proofs.Counts.{stops_after, stops_as, stops_at_none, then_rose}
use Rattle.ox_outside.specs.Counts.{NoFault}
use Rattle.ox_outside.specs.Runs.{OnlyLooks}
use Rattle.ox_outside.specs.declared.site.Site.{Ghosts as Meanings}
use Rattle.ox_gated.specs.Readers.{IsDisk, LooksUntil}
use Rattle.ox_gated.specs.declared.fault.GateFault.{GateFault}

-- what was given is no fault of the disk
pub given : {T : Type 0} (x : T) → ¬ IsDisk (Ok x)
given x disk = cc disk

module _ {S : Type 0} (means : Meanings S) where
  -- calls of which none failed
  pub until_well : {T : Type 0} (result : Result T GateFault) (old new : S) → ¬ IsDisk result → OnlyLooks means old new → NoFault (means.counts old) (means.counts new)
      → LooksUntil means result old new
  until_well result old new not_disk looks well = record { looks = looks; failed = λ disk. absurd (not_disk disk); counted = stops_at_none _ ⊥ ⊥ _ _ well }

  -- the same calls, and what is answered instead
  pub until_as : {T U : Type 0} (first : Result U GateFault) (result : Result T GateFault) (old new : S) → (IsDisk first → IsDisk result) → (IsDisk result → IsDisk first)
      → LooksUntil means first old new → LooksUntil means result old new
  until_as first result old new there back run = record {
    looks = run.looks;
    failed = λ disk. run.failed (back disk);
    counted = stops_as _ ⊥ ⊥ _ ⊥ ⊥ _ _ there (λ no. no) (λ no. no) run.counted;
  }

  -- calls behind which no fault of the disk was answered, and more of them
  pub until_then : {T : Type 0} (result : Result T GateFault) (old mid new : S) → OnlyLooks means old mid → NoFault (means.counts old) (means.counts mid)
      → LooksUntil means result mid new → LooksUntil means result old new
  until_then result old mid new looks well next = record {
    looks = looks_then means old mid new looks next.looks;
    failed = λ disk. then_rose _ _ _ looks.calls.none_fell.disk (next.failed disk);
    counted = stops_after _ ⊥ ⊥ _ _ _ well next.counted;
  }
