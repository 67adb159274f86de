-- A value now, and what it was at a mark.
use Rattle.std.specs.Prelude.{ℕ, ◌<◌, List, [], ◌++◌, Option, IsSome}
use Rattle.std.specs.Prelude.{zero, suc}
use Rattle.std.specs.Prelude.{length, slice_get}
use Rattle.std.specs.BTreeMap.{is_at}
use Rattle.std.specs.Map.{lookup}
use Rattle.std.specs.Option.{option_or}
use Rattle.std.specs.Ordering.{nat_cmp}
use Rattle.ox_rules.specs.Transfer.{as_list}

pub record WithMark (A : Type 0) : Type 0 where
  pub now : A
  pub mark : Option A

-- the values at the first so many places
unfoldable pub listed : {A : Type 0} → (ℕ → Option A) → ℕ → List A
listed at zero = []
listed at (suc n) = listed at n ++ as_list (at n)

-- there is a value at each of the first so many places
abbrev pub IsFull : {A : Type 0} → (ℕ → Option A) → ℕ → Type 0
IsFull at count = (n : ℕ) → n < count → IsSome (at n)

-- values by their places, and what stood first where others were put, by rising places
pub record Standing (A : Type 0) : Type 0 where
  pub items : List A
  pub stood : List (ℕ × A)

-- what is kept of a place
abbrev pub kept_at : {A : Type 0} → List (ℕ × A) → ℕ → Option A
kept_at stood place = lookup (is_at (nat_cmp place)) stood

-- what stood at a place: what is kept of it, else the value that is there
abbrev pub stood_in : {A : Type 0} → Standing A → ℕ → Option A
stood_in values place = option_or (kept_at values.stood place) (slice_get values.items place)

-- what is kept stood in the places of values
abbrev pub AreOfPlaces : {A : Type 0} → List (ℕ × A) → List A → Type 0
AreOfPlaces stood items = (place : ℕ) → IsSome (kept_at stood place) → place < length items
