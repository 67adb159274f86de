-- The keys of objects.
use Rattle.std.specs.Prelude.{ℕ, Bool, true, false, ◌&&◌, List}
use Rattle.std.specs.Ordering.{nat_cmp, match_ordering}
use Rattle.std.specs.Cmp.Lexicographic.{slice_cmp}
use Rattle.serde_json.specs.Data.{Data, null, boolean, number, string, array, object}
use Rattle.serde_json.specs.Data.{Items, no_items, item, Members, no_members, member}

-- a key stands before the first of these, by its bytes
abbrev pub is_before : List ℕ → Members → Bool
is_before key no_members = true
is_before key (member other tree more) =
    match_ordering (slice_cmp nat_cmp key other) true false false

-- The keys of an object rise, and so do those of all objects within it: so none stands twice.
abbrev mutual
  pub keys_rise : Data → Bool
  keys_rise null = true
  keys_rise (boolean b) = true
  keys_rise (number n) = true
  keys_rise (string bytes) = true
  keys_rise (array items) = items_rise items
  keys_rise (object members) = members_rise members

  pub items_rise : Items → Bool
  items_rise no_items = true
  items_rise (item tree items) = keys_rise tree && items_rise items

  pub members_rise : Members → Bool
  members_rise no_members = true
  members_rise (member key tree more) =
      is_before key more && keys_rise tree && members_rise more
