-- What the ledger's tables show.
use Rattle.std.specs.Prelude.{◌≡◌, ℕ, List, [], ◌∷◌, Option, Some, None, slice_get}
use Rattle.std.specs.Prelude.{if◌then◌else◌}
use Rattle.std.specs.Option.{option_map}
use Rattle.std.specs.FinMap.{empty, insert, remove}
use Rattle.ox_block.specs.declared.block.OutPoint.{OutPoint}
use Rattle.ox_marked.specs.Marked.{Logged}
use Rattle.ox_runestone.specs.declared.stone.RuneId.{RuneId}
use Rattle.ox_allocation.specs.Balances.{Balance}
use Rattle.ox_etching.specs.declared.row.RuneRow.{RuneRow}
use Rattle.ox_ledger.specs.Runes.{BalanceMap}

-- balances with what was put at an outpoint: a list, or none
abbrev pub with_change : BalanceMap → OutPoint → Option (List Balance) → BalanceMap
with_change bal at None = remove bal at
with_change bal at (Some balances) = insert bal at balances

-- balances with all that was put, of which the first at an outpoint counts
abbrev pub with_changes : BalanceMap → List (OutPoint × Option (List Balance)) → BalanceMap
with_changes bal [] = bal
with_changes bal (change ∷ changes) =
    with_change (with_changes bal changes) change.0 change.1

-- the balances that a map with a mark shows
abbrev pub held_in : Logged OutPoint (List Balance) → BalanceMap
held_in map = with_changes empty map.entries

-- those at its mark, if there is one
abbrev pub held_then : Logged OutPoint (List Balance) → Option BalanceMap
held_then map = if map.marked then Some (with_changes (held_in map) map.log) else None

-- the rune at a place has this
abbrev pub HasAt : {A : Type 0} → (RuneRow → A) → List RuneRow → ℕ → A → Type 0
HasAt of runes place value = option_map of (slice_get runes place) ≡ Some value

-- no rune has this
abbrev pub IsAbsent : {A : Type 0} → (RuneRow → A) → List RuneRow → A → Type 0
IsAbsent of runes value = (place : ℕ) → HasAt of runes place value → ⊥

-- a rune at its place has this, and no other does
pub record IsOnly {A : Type 0} (of : RuneRow → A) (runes : List RuneRow) (value : A)
    (at : ℕ × RuneRow) : Type 0 where
  pub there : slice_get runes at.0 ≡ Some at.1
  pub has : of at.1 ≡ value
  pub only : (place : ℕ) → HasAt of runes place value → place ≡ at.0

-- each rune is found at its place by what it has
abbrev pub Finds : {A : Type 0} → (RuneRow → A) → List RuneRow → (A → Option ℕ) → Type 0
Finds {A} of runes place_of =
    (value : A) (place : ℕ) → HasAt of runes place value → place_of value ≡ Some place

-- runes are found by their ids and by their names
pub record AreIndexed (runes : List RuneRow) (by_id : RuneId → Option ℕ) (by_name : ℕ → Option ℕ)
    : Type 0 where
  pub ids : Finds (λ row. row.id) runes by_id
  pub names : Finds (λ row. row.name) runes by_name
