-- Inscriptions in the order of their numbers, which are their places from 0 on. Several may share
-- an id: equal coinbases let a whole transaction repeat, with another witness.
use Rattle.std.specs.Prelude.{ℕ, ◌+◌, Bool, false, ◌&&◌, List, [], ◌∷◌, Option, Some, None}
use Rattle.std.specs.Prelude.{position, slice_get}
use Rattle.std.specs.Prelude.{◌==◌, nat_lt, bytes_eq, min, option_map, if◌then◌else◌}
use Rattle.std.specs.List.{list_any}
use Rattle.std.specs.Option.{option_map_or}
use Rattle.ox_envelope.specs.declared.id.InsId.{InsId}
use Rattle.ox_inscribe.specs.declared.row.InsRow.{InsRow}

abbrev pub is_same_id : InsId → InsId → Bool
is_same_id a b = bytes_eq a.txid b.txid && (a.index == b.index)

-- the number of the first inscription with an id
abbrev pub find : List InsRow → InsId → Option ℕ
find rows id = position (λ row. is_same_id row.id id) rows

-- the numbers of the rows that pass a test, rising, the first row having this number
unfoldable pub numbers_where : (InsRow → Bool) → ℕ → List InsRow → List ℕ
numbers_where passes number [] = []
numbers_where passes number (row ∷ rows) =
    if passes row
    then (number ∷ numbers_where passes (number + 1) rows)
    else numbers_where passes (number + 1) rows

abbrev pub is_on : ℕ → InsRow → Bool
is_on sat row = option_map_or (λ s. s == sat) row.sat false

-- the numbers of the inscriptions on a satoshi, rising
abbrev pub on : List InsRow → ℕ → List ℕ
on rows sat = numbers_where (is_on sat) 0 rows

-- the lesser of two satoshis, where a satoshi is one from a number up
abbrev pub lesser_from : ℕ → Option ℕ → Option ℕ → Option ℕ
lesser_from low None least = least
lesser_from low (Some sat) None = if nat_lt sat low then None else Some sat
lesser_from low (Some sat) (Some least) =
    if nat_lt sat low then Some least else Some (min sat least)

-- the least satoshi from a number up that bears an inscription
unfoldable pub next_sat : List InsRow → ℕ → Option ℕ
next_sat [] low = None
next_sat (row ∷ rows) low = lesser_from low row.sat (next_sat rows low)

-- that satoshi, and the numbers of the inscriptions on it
abbrev pub next_on : List InsRow → ℕ → Option (ℕ × List ℕ)
next_on rows low = option_map (λ sat. (sat, on rows sat)) (next_sat rows low)

abbrev pub has_parent : InsId → InsRow → Bool
has_parent id row = list_any (is_same_id id) row.parents

-- the numbers of the inscriptions among whose parents this row's id stands, rising
abbrev pub children_of : List InsRow → InsRow → List ℕ
children_of rows row = numbers_where (has_parent row.id) 0 rows

-- the children of the inscription with a number, if there is one
abbrev pub children : List InsRow → ℕ → List ℕ
children rows number = option_map_or (children_of rows) (slice_get rows number) []
