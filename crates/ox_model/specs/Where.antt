-- Where a satoshi is: in which output and at which place of it, or at which place of the lost ones.
use Rattle.std.specs.Prelude.{ℕ, Option, Some}
use Rattle.std.specs.Option.{option_map_or, option_map}
use Rattle.std.specs.FinMap.{entries}
use Rattle.ox_rules.specs.declared.place.Place.{Place}
use Rattle.ox_rules.specs.declared.place.Place.TheVariants.{Lost}
use Rattle.ox_rules.specs.Where.{place_in, place_among}
use Rattle.ox_model.specs.Index.{Index}

-- in an output, else among the lost ones, else nowhere
abbrev pub where_is : Index → ℕ → Option Place
where_is index sat =
    option_map_or (λ place. Some place) (place_among (entries index.outs) sat)
    (option_map Lost (place_in index.lost sat))
