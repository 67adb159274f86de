-- Where a satoshi is among outputs: in which of them, and at which place of it.
use Rattle.std.specs.Prelude.{ℕ, List, [], ◌∷◌, Option, Some, None, position, ◌==◌}
use Rattle.std.specs.Option.{option_map_or}
use Rattle.ox_block.specs.declared.block.OutPoint.{OutPoint}
use Rattle.ox_rules.specs.declared.rows.OutRow.{OutRow}
use Rattle.ox_rules.specs.declared.place.Place.{Place}
use Rattle.ox_rules.specs.declared.place.Place.TheVariants.{Out}

-- the first place of a satoshi in a list
abbrev pub place_in : List ℕ → ℕ → Option ℕ
place_in sats sat = position (λ s. s == sat) sats

-- the first of these outputs that holds it, and its place there
abbrev pub place_among : List (OutPoint × OutRow) → ℕ → Option Place
place_among [] sat = None
place_among (e ∷ outs) sat =
    option_map_or (λ offset. Some (Out e.0 offset)) (place_in e.1.sats sat) (place_among outs sat)
