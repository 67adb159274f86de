-- How a call of `door` ends.
use Rattle.std.specs.Prelude.{◌≡◌, ◌⊎◌, ℕ, ◌<◌, ◌≤◌, true, false, List, [], length}
use Rattle.std.specs.Prelude.{Option, Some, None, Result, Ok, Err}
use Rattle.ox_outside.specs.declared.site.Doorway.{Doorway}
use Rattle.ox_outside.specs.declared.site.Failed.{Failed}
use Rattle.ox_outside.specs.Event.{Event}
use Rattle.ox_memsite.specs.Room.{channels_in}
use Rattle.ox_memsite.specs.World.{World, is_listed, waiting_at, after_call, after_starving}
use Rattle.ox_memsite.specs.World.{after_door_fault, after_idle, after_opening}

-- the greatest number of a channel
abbrev pub last_number : ℕ
last_number = 4294967295

-- A link's number is past every one that the log names, 0 among them.
abbrev pub IsPast : Result (Option ℕ) Failed → List Event → Type 0
IsPast (Ok (Some channel)) log = channels_in log ≤ channel
IsPast (Ok None) log = Unit {0}
IsPast (Err failed) log = Unit {0}

-- The first link that waits at the door gets the next number.
pub record Opens (door : Doorway) (channel : ℕ) (old new : World) : Type 0 where
  pub unlisted : is_listed old ≡ false
  pub waits : 1 ≤ length (waiting_at old door)
  pub number : channel ≡ length old.channels
  pub after : new ≡ after_opening door (after_call old)

-- Nobody waits there.
pub record Idles (door : Doorway) (old new : World) : Type 0 where
  pub unlisted : is_listed old ≡ false
  pub nobody : waiting_at old door ≡ []
  pub after : new ≡ after_idle door (after_call old)

-- A link waits, and every number was given.
pub record UsesUp (door : Doorway) (old new : World) : Type 0 where
  pub unlisted : is_listed old ≡ false
  pub waits : 1 ≤ length (waiting_at old door)
  pub no_number : last_number < length old.channels
  pub after : new ≡ after_door_fault (after_call old)

-- The call is listed.
pub record IsListedDoor (old new : World) : Type 0 where
  pub listed : is_listed old ≡ true
  pub after : new ≡ after_door_fault (after_call old)

abbrev pub DoorEnds : Doorway → Result (Option ℕ) Failed → World → World → Type 0
DoorEnds door (Ok (Some channel)) old new = Opens door channel old new
DoorEnds door (Ok None) old new = Idles door old new
DoorEnds door (Err failed) old new =
    IsListedDoor old new ⊎ UsesUp door old new
    ⊎ (new ≡ after_door_fault (after_starving (after_call old)))
