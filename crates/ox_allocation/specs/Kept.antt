-- How a pool is kept.
use Rattle.std.specs.Prelude.{List}
use Rattle.ox_allocation.specs.declared.balances.Kept.{Kept}
use Rattle.ox_allocation.specs.declared.balances.Kept.TheVariants.{Rising, ById}
use Rattle.ox_allocation.specs.Balances.{Balance}

-- the runes of a pool and their amounts
abbrev pub runes_in : Kept → List Balance
runes_in (Rising runes) = runes.items
runes_in (ById amounts) = amounts
