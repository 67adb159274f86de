-- The signed numbers of inscriptions. They are this project's own: nothing is claimed of the
-- numbers that the program `ord` gives.
use Rattle.std.specs.Prelude.{ℕ, ℤ, pos, negsuc, Bool, true, false, not, ◌&&◌, ◌==◌, nat_lt, nat_le}
use Rattle.std.specs.Prelude.{List, take, count_by, Option, option_map, slice_get}
use Rattle.ox_inscribe.specs.declared.row.InsRow.{InsRow}

abbrev pub is_marked : InsRow → Bool
is_marked row = not (row.marks == 0)

-- cursed: revealed below the jubilee, and marked
abbrev pub is_cursed : ℕ → InsRow → Bool
is_cursed jubilee row = nat_lt row.height jubilee && is_marked row

-- vindicated: revealed from the jubilee on, and marked
abbrev pub is_vindicated : ℕ → InsRow → Bool
is_vindicated jubilee row = nat_le jubilee row.height && is_marked row

abbrev pub is_uncursed : ℕ → InsRow → Bool
is_uncursed jubilee row = not (is_cursed jubilee row)

-- The number of a row behind so many cursed ones and so many others: of a cursed one -1 less the
-- cursed ones, of any other how many others there are.
abbrev pub signed : Bool → ℕ → ℕ → ℤ
signed true cursed others = negsuc cursed
signed false cursed others = pos others

-- the number of a row that stands at this place
abbrev pub number_of : ℕ → List InsRow → ℕ → InsRow → ℤ
number_of jubilee rows n row =
    signed (is_cursed jubilee row) (count_by (is_cursed jubilee) (take n rows))
    (count_by (is_uncursed jubilee) (take n rows))

-- the number of the row at a place, if there is one
abbrev pub number_at : ℕ → List InsRow → ℕ → Option ℤ
number_at jubilee rows n = option_map (number_of jubilee rows n) (slice_get rows n)
