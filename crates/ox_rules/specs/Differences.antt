-- What differs between two finite maps, and how either is had from the other.
use Rattle.std.specs.Prelude.{◌≡◌, ◌≢◌, ◌↔◌, IsTrue, List, [], ◌∷◌, Some}
use Rattle.std.specs.FinMap.{FinMap, find, get, insert, is_sorted, remove}
use Rattle.std.specs.declared.cmp.Ordering.{Ordering}

-- the rows before that don't stand so after, by rising key
pub record AreGone {K X : Type 0} {R : K → K → Ordering} (before after : FinMap R X)
    (gone : List (K × X)) : Type 0 where
  pub rising : IsTrue (is_sorted R gone)
  pub rows : (at : K) (row : X)
      → (find R at gone ≡ Some row) ↔ ((get before at ≡ Some row) × (get after at ≢ Some row))

-- the rows that went and those that came; a row that changed is in both
pub record Difference (K X : Type 0) : Type 0 where
  pub gone : List (K × X)
  pub came : List (K × X)

pub record Differ {K X : Type 0} {R : K → K → Ordering} (before after : FinMap R X)
    (difference : Difference K X) : Type 0 where
  pub gone : AreGone before after difference.gone
  pub came : AreGone after before difference.came

-- a map without the rows at the keys of these
abbrev pub without_rows : {K X : Type 0} {R : K → K → Ordering}
    → FinMap R X → List (K × X) → FinMap R X
without_rows map [] = map
without_rows map (row ∷ rows) = remove (without_rows map rows) row.0

-- a map with these rows
abbrev pub with_rows : {K X : Type 0} {R : K → K → Ordering}
    → FinMap R X → List (K × X) → FinMap R X
with_rows map [] = map
with_rows map (row ∷ rows) = insert (with_rows map rows) row.0 row.1

-- the other end of a difference: without the rows that came, and with those again that are gone
abbrev pub other_end : {K X : Type 0} {R : K → K → Ordering}
    → FinMap R X → Difference K X → FinMap R X
other_end after difference = with_rows (without_rows after difference.came) difference.gone

-- the same difference, seen from the other end
abbrev pub reverse_of : {K X : Type 0} → Difference K X → Difference K X
reverse_of difference = record { gone = difference.came; came = difference.gone }
