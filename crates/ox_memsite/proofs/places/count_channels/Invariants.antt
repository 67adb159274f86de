use Rattle.std.proofs.Common.{◌≡◌, ◌≤◌, take}
use Rattle.ox_memsite.specs.Room.{channels_in}
use Rattle.ox_memsite.specs.World.{events_of}
use Rattle.ox_memsite.proofs.places.count_channels.Given as goal

abbrev pub invariant-loop-step : goal.invariant-loop-step
invariant-loop-step l = record {
  is : l.count ≡ channels_in (events_of (take l.step-index l.steps));
  some : 1 ≤ l.count;
  few : l.count ≤ 4294967296;
}
