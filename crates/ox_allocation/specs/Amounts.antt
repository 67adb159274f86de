-- How amounts of runes are kept: none, one or more of them.
use Rattle.std.specs.Prelude.{◌<◌, List, [], ◌∷◌, length}
use Rattle.std.specs.List.Sorted.{IsStrictlySortedBy}
use Rattle.ox_allocation.specs.declared.rune_amounts.Form.{Form}
use Rattle.ox_allocation.specs.declared.rune_amounts.Form.TheVariants.{Empty, One, Many}
use Rattle.ox_allocation.specs.Balances.{Balance, id_cmp, ids_of}

-- the ids and their amounts
abbrev pub entries_in : Form → List Balance
entries_in Empty = []
entries_in (One id amount) = (id, amount) ∷ []
entries_in (Many amounts) = amounts.entries

-- memory is taken for some runes, whose ids rise
pub record IsMany (entries : List Balance) : Type 0 where
  pub some : 0 < length entries
  pub rising : IsStrictlySortedBy id_cmp (ids_of entries)

abbrev pub IsForm : Form → Type 0
IsForm Empty = Unit {0}
IsForm (One id amount) = Unit {0}
IsForm (Many amounts) = IsMany amounts.entries
