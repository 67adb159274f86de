-- Where a satoshi was before some changes.
use Rattle.std.specs.Prelude.{ℕ, ◌-◌, Bool, not, is_some, nat_lt, List, [], ◌∷◌, length}
use Rattle.std.specs.Prelude.{Option, Some, None, if◌then◌else◌}
use Rattle.std.specs.FinMap.{find}
use Rattle.ox_rules.specs.Outputs.{outpoint_cmp}
use Rattle.ox_rules.specs.Where.{place_among}
use Rattle.ox_rules.specs.declared.place.Place.{Place}
use Rattle.ox_rules.specs.declared.place.Place.TheVariants.{Out, Lost}
use Rattle.ox_model.specs.declared.change.Change.{Change}

-- a place is no new one: its output didn't come in this change, and its satoshi wasn't lost in it,
-- where so many were lost before
abbrev pub is_old : Change → ℕ → Place → Bool
is_old change lost (Out at offset) = not (is_some (find outpoint_cmp at change.came))
is_old change lost (Lost offset) = nat_lt offset lost

-- where a satoshi was before a change: at the same place, or in an output that is gone
abbrev pub place_before : Change → ℕ → ℕ → Option Place → Option Place
place_before change lost sat None = None
place_before change lost sat (Some place) =
    if is_old change lost place then Some place else place_among change.gone sat

-- and before some changes, the newest first, where so many are lost now
abbrev pub place_by : List Change → ℕ → ℕ → Option Place → Option Place
place_by [] lost sat place = place
place_by (change ∷ changes) lost sat place =
    let fewer = lost - length change.lost in
    place_by changes fewer sat (place_before change fewer sat place)
