-- The places of slots, by outpoint.
use Rattle.std.specs.Prelude.{◌≡◌, ◌⊎◌, ℕ, List, Option, Some, IsTrue}
use Rattle.std.specs.BTreeMap.{get}
use Rattle.ox_block.specs.declared.block.OutPoint.{OutPoint}
use Rattle.ox_rules.specs.Outputs.{outpoint_cmp}
use Rattle.ox_block.specs.Keys.{outpoint_tag}
use Rattle.ox_outputs.specs.declared.entry.Entry.{Entry}
use Rattle.ox_outputs.specs.declared.places.Places.{Places}
use Rattle.ox_outputs.specs.Lists.{led_to, is_in}
use Rattle.ox_outputs.specs.Slots.{SlotList, outpoint_at}

-- the list in which an outpoint's place may stand
abbrev pub list_at : Places → OutPoint → List Entry
list_at places at = led_to places.lists.items places.lines (outpoint_tag at)

-- an outpoint's place in the ordered map
abbrev pub other_at : Places → OutPoint → Option ℕ
other_at places at = get outpoint_cmp places.others at

-- an outpoint's place is in its list or in the ordered map
abbrev pub HasPlace : Places → OutPoint → ℕ → Type 0
HasPlace places at place =
    IsTrue (is_in (list_at places at) (outpoint_tag at) place)
    ⊎ (other_at places at ≡ Some place)

-- The places are those of the slots, each of which has an outpoint of its own.
pub record ArePlaced (places : Places) (slots : SlotList) : Type 0 where
  pub among : (at : OutPoint) (place : ℕ) → outpoint_at slots place ≡ Some at
      → HasPlace places at place
  pub others : (at : OutPoint) (place : ℕ) → other_at places at ≡ Some place
      → outpoint_at slots place ≡ Some at
  pub apart : (at : OutPoint) (p q : ℕ) → outpoint_at slots p ≡ Some at
      → outpoint_at slots q ≡ Some at → p ≡ q
