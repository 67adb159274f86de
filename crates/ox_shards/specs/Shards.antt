-- A map in shards.
use Rattle.std.specs.Prelude.{◌≡◌, ◌≢◌, ℕ, ◌<◌, ◌≤◌, Bool, true, false, not, List, [], ◌++◌, flat_map, length}
use Rattle.std.specs.Prelude.{Option, None, IsSome, slice_get, unwrap_or}
use Rattle.std.specs.declared.cmp.Ordering.{Ordering}
use Rattle.std.specs.Ordering.{is_eq, eq_by_cmp}
use Rattle.std.specs.Option.{option_or}
use Rattle.std.specs.List.{IsDistinct, filter}
use Rattle.std.specs.Map.{lookup, keys_of}
use Rattle.std.specs.BTreeMap.{is_at}

-- keys with their values: list by list, and then those of the ordered map
abbrev pub Entries : Type 0 → Type 0 → Type 0
Entries K V = List (K × V)

-- the value at a key
abbrev pub value_at : {K V : Type 0} → (K → K → Ordering) → Entries K V → K → Option V
value_at cmp entries key = lookup (is_at (cmp key)) entries

-- what stands in some lists
abbrev pub joined : {K V : Type 0} → List (Entries K V) → Entries K V
joined lists = flat_map (λ list. list) lists

-- what stands in some lists and in the ordered map
abbrev pub entries_of : {K V : Type 0} → List (Entries K V) → Entries K V → Entries K V
entries_of lists others = joined lists ++ others

-- the list with this index, or an empty one
abbrev pub items_at : {K V : Type 0} → List (Entries K V) → ℕ → Entries K V
items_at lists index = unwrap_or (slice_get lists index) []

module _ {K V : Type 0} (cmp : K → K → Ordering) where
  -- the value at a key in a list, or else in the ordered map
  abbrev pub value_with : Entries K V → Entries K V → K → Option V
  value_with list others key = option_or (value_at cmp list key) (value_at cmp others key)

  -- No key stands twice in a list, or both in the list and in the ordered map.
  pub record IsSound (list others : Entries K V) : Type 0 where
    pub distinct : IsDistinct (eq_by_cmp cmp) (keys_of list)
    pub apart : (key : K) → IsSome (value_at cmp list key) → value_at cmp others key ≡ None

  -- A list and the ordered map have this value at a key now, or none, and are as before at others.
  pub record Changes (list others new_list new_others : Entries K V) (key : K) (value : Option V)
      : Type 0 where
    pub sound : IsSound new_list new_others
    pub here : (q : K) → is_eq (cmp key q) ≡ true → value_with new_list new_others q ≡ value
    pub in_list : (q : K) → is_eq (cmp key q) ≡ false
        → value_at cmp new_list q ≡ value_at cmp list q
    pub in_others : (q : K) → is_eq (cmp key q) ≡ false
        → value_at cmp new_others q ≡ value_at cmp others q

  -- There are no lists yet, and nothing in the ordered map, or `count` lists at least, and each has
  -- only keys that stand in it, and none twice.
  module _ (shard : K → ℕ) (count : ℕ) where
    pub record AreShards (lists : List (Entries K V)) (others : Entries K V) : Type 0 where
      pub made : 1 < count → count ≤ length lists
      pub none : length lists ≡ 0 → others ≡ []
      pub own : (index : ℕ) (key : K) → IsSome (value_at cmp (items_at lists index) key)
          → shard key ≡ index
      pub sound : (index : ℕ) → IsSound (items_at lists index) others

module _ {K V : Type 0} (goes : K → Bool) where
  -- the entries whose keys go, or stay
  abbrev pub going : Entries K V → Entries K V
  going list = filter (λ entry. goes entry.0) list

  abbrev pub staying : Entries K V → Entries K V
  staying list = filter (λ entry. not (goes entry.0)) list

  -- From one list those entries whose keys go have moved to another.
  pub record IsSplit (from last : ℕ) (old new : List (Entries K V)) : Type 0 where
    pub stay : items_at new from ≡ staying (items_at old from)
    pub go : items_at new last ≡ going (items_at old from)
    pub rest : (index : ℕ) → index ≢ from → index ≢ last → items_at new index ≡ items_at old index
    pub room : last < length new
