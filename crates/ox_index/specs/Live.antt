-- What an index in memory shows.
use Rattle.std.specs.Prelude.{Option, None}
use Rattle.std.specs.Option.{option_map_or, option_map}
use Rattle.ox_sat.specs.declared.profiles.Profile.{Profile}
use Rattle.ox_model.specs.Index.{Index}
use Rattle.ox_index.specs.Lengths.{index_to}
use Rattle.ox_index.specs.Parts.{held_in, mark_of}
use Rattle.ox_index.specs.declared.live.Live.{Live}

-- the profile by which its chain counts
abbrev pub profile_in : Live → Profile
profile_in live = live.parts.profile

-- the index
abbrev pub index_in : Live → Index
index_in live = index_to live.hashes.items (held_in live.parts) live.lost live.shown

-- the index to which `cancel` goes back, where there is one
abbrev pub marked_in : Live → Option Index
marked_in live =
    option_map_or
    (λ lengths. option_map
    (λ held. index_to live.hashes.items held live.lost lengths) (mark_of live.parts))
    live.marked None
