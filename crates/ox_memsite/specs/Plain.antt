-- Steps that need no more than room.
use Rattle.std.specs.Prelude.{◌≡◌, ℕ, ◌≤◌, max, false}
use Rattle.ox_outside.specs.Disk.{Disk}
use Rattle.ox_outside.specs.Event.{has_broken}
use Rattle.ox_outside.specs.declared.site.Which.{Which}
use Rattle.ox_memsite.specs.Room.{channels_in}
use Rattle.ox_memsite.specs.World.{disk_step, event_of}
use Rattle.ox_memsite.specs.declared.step.Step.{Step}

-- The step leaves what is read as it is, breaks no channel, and names none but channel 0 and those
-- below the count.
pub record IsPlain (count : ℕ) (step : Step) : Type 0 where
  pub seen : (which : Which) (disk : Disk) → (disk_step which disk step).seen ≡ disk.seen
  pub whole : (channel : ℕ) → has_broken channel (event_of step) ≡ false
  pub named : channels_in (event_of step) ≤ max count 1
