-- A server that follows its site.
use Rattle.ox_memsite.specs.World.{World, log_of}
use Rattle.ox_turns.specs.Places.{Places}
use Rattle.ox_turns.specs.Turn.{FollowsSome}
use Rattle.ox_part_tests.specs.OneReply.{server}

-- there is a start from which these slots follow the log of the site
abbrev pub IsServed : Places → World → Type 0
IsServed places site = FollowsSome server places.slots 0 (log_of site)
