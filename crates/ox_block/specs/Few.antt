-- What one value, two or more are kept as.
use Rattle.std.specs.Prelude.{◌≡◌, ◌<◌, List, [], length}
use Rattle.ox_block.specs.declared.few.Form.{Form}
use Rattle.ox_block.specs.declared.few.Form.TheVariants.{Empty, One, Two, Many}

module _ {T : Type 0} where
  -- the values, in order
  abbrev pub values_in : Form T → List T
  values_in Empty = []
  values_in (One value) = value
  values_in (Two values) = values
  values_in (Many values) = values.items

  -- Each form has as many values as it says: more than two alone are in memory of their own.
  abbrev pub IsForm : Form T → Type 0
  IsForm Empty = Unit {0}
  IsForm (One value) = length value ≡ 1
  IsForm (Two values) = length values ≡ 2
  IsForm (Many values) = 2 < length values.items
