-- What one pass over tags and values keeps of them.
use Rattle.std.specs.Prelude.{◌≡◌, ℕ, ◌<◌, ◌%◌, Bool, List, [], ◌∷◌, length, Option}
use Rattle.std.specs.Prelude.{Some, None, slice_index_or, slice_set, ◌==◌}
use Rattle.std.specs.Prelude.{◌&&◌, ◌||◌, nat_lt, nat_le, if◌then◌else◌}
use Rattle.std.specs.List.{list_any}
use Rattle.ox_runestone.specs.declared.message.Values.{Values}
use Rattle.ox_runestone.specs.declared.message.Fields.{Fields}
use Rattle.ox_runestone.specs.Message.{Field, values}

-- how many values there are, at most 3
abbrev pub count_kept : List ℕ → ℕ
count_kept [] = 0
count_kept (first ∷ []) = 1
count_kept (first ∷ second ∷ []) = 2
count_kept (first ∷ second ∷ third ∷ rest) = 3

-- what is kept of a list of values
abbrev pub values_kept : List ℕ → Values
values_kept list = record {
  first = slice_index_or list 0 0;
  second = slice_index_or list 1 0;
  count = count_kept list;
}

-- the first two values, where there are so many
abbrev pub first_kept : Values → Option ℕ
first_kept list = if nat_lt 0 list.count then Some list.first else None

abbrev pub second_kept : Values → Option ℕ
second_kept list = if nat_lt 1 list.count then Some list.second else None

-- one value more
abbrev pub with_value : Values → ℕ → Values
with_value old value =
    if old.count == 0 then record { first = value; second = old.second; count = 1 }
    else (if old.count == 1 then record { first = old.first; second = value; count = 2 }
    else record { first = old.first; second = old.second; count = 3 })

-- whether there are more values than so many, which are at most two
abbrev pub leaves_in : Values → ℕ → Bool
leaves_in list taken = nat_lt taken list.count

-- the values of a tag with a field
abbrev pub values_at : Fields → ℕ → Values
values_at fields tag = slice_index_or fields.values tag (values_kept [])

abbrev pub with_field : Fields → ℕ → ℕ → Fields
with_field fields tag value =
    if nat_lt tag 23 then record {
      values = slice_set fields.values tag (with_value (values_at fields tag) value);
      strange = fields.strange;
    }
    else record { values = fields.values; strange = fields.strange || (tag % 2 == 0) }

-- an even tag without a field
abbrev pub is_strange : Field → Bool
is_strange field = nat_le 23 field.0 && (field.0 % 2 == 0)

-- these fields are kept of the list
pub record IsKeptOf (fields : Fields) (list : List Field) : Type 0 where
  pub known : (tag : ℕ) → tag < 23 → values_at fields tag ≡ values_kept (values list tag)
  pub strange : fields.strange ≡ list_any is_strange list
  pub long : length fields.values ≡ 23
