use Rattle.std.proofs.Common.{◌≡◌, drop}
use Rattle.ox_links.specs.Rotation.{first_who, places}
use Rattle.ox_turns.specs.Places.{channels_of}
use Rattle.ox_turns.proofs.turns.Turns.first_from.Given as goal

abbrev pub invariant-loop-at : goal.invariant-loop-at
invariant-loop-at l =
    first_who l.place (drop l.place (places (channels_of l.self.slots))) ≡ first_who l.at (drop l.at (places (channels_of l.self.slots)))
