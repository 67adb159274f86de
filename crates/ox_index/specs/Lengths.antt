-- Lists of which the first part counts. What stands behind it may count again.
use Rattle.std.specs.Prelude.{◌≡◌, ℕ, ◌≤◌, List, length, take, Option, Some, IsSome}
use Rattle.ox_sat.specs.declared.profiles.Profile.{Profile}
use Rattle.ox_model.specs.Index.{Index}
use Rattle.ox_model.specs.Sound.{IsSound}
use Rattle.ox_index.specs.Held.{Held}
use Rattle.ox_index.specs.declared.lengths.Lengths.{Lengths}

-- the index that has these parts
abbrev pub index_of_parts : List (List ℕ) → Held → List ℕ → Index
index_of_parts hashes held lost = record {
  hashes = hashes;
  outs = held.outs;
  lost = lost;
  inscriptions = held.inscriptions;
  bal = held.runes.bal;
  runes = held.runes.runes;
}

-- the index that has so much of these lists
abbrev pub index_to : List (List ℕ) → Held → List ℕ → Lengths → Index
index_to hashes held lost lengths =
    index_of_parts (take lengths.blocks hashes) held (take lengths.lost lost)

-- so much of the lists is there
pub record AreWithin (hashes : List (List ℕ)) (lost : List ℕ) (lengths : Lengths) : Type 0 where
  pub hashes_there : lengths.blocks ≤ length hashes
  pub lost_there : lengths.lost ≤ length lost

-- at the mark of the parts so much counted, and the index was sound
pub record IsMark (p : Profile) (hashes : List (List ℕ)) (marked : Option Held) (lost : List ℕ)
    (lengths : Lengths) : Type 0 where
  pub within : AreWithin hashes lost lengths
  pub there : IsSome marked
  pub sound : (held : Held) → marked ≡ Some held
      → IsSound p (index_to hashes held lost lengths)
