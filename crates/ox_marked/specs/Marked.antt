-- A map whose values change in place, with what stood at each key before.
use Rattle.std.specs.Prelude.{Bool, List, IsSome, Option, Some, None, is_some, if◌then◌else◌}
use Rattle.std.specs.declared.cmp.Ordering.{Ordering}
use Rattle.std.specs.List.{All}
use Rattle.std.specs.Option.{unwrap_or}
use Rattle.std.specs.Map.{lookup}
use Rattle.std.specs.BTreeMap.{is_at}

-- Keys, each with a value or none.
abbrev pub Values : Type 0 → Type 0 → Type 0
Values K V = List (K × Option V)

-- What stands at each key, or none where a value was taken out; what stood where something was put
-- since the mark, the oldest first; and whether there is a mark.
pub record Logged (K V : Type 0) : Type 0 where
  pub entries : Values K V
  pub log : Values K V
  pub marked : Bool

module _ {K V : Type 0} (cmp : K → K → Ordering) where
  -- the value that stands at a key
  abbrev pub standing : Values K V → K → Option V
  standing entries key = unwrap_or (lookup (is_at (cmp key)) entries) None

  -- the value at a key before some changes: what the oldest one at the key says, and what there is
  -- afterwards where there is none
  abbrev pub before_in : Values K V → (K → Option V) → K → Option V
  before_in log after key = unwrap_or (lookup (is_at (cmp key)) log) (after key)

  -- each key at which something was put stands among the entries
  abbrev pub AreLogged : Values K V → Values K V → Type 0
  AreLogged log entries = All (λ note. IsSome (lookup (is_at (cmp note.0)) entries)) log

  -- what the map has at a key
  abbrev pub content_in : Logged K V → K → Option V
  content_in map = standing map.entries

  -- what it had at each key at the mark, if there is a mark
  abbrev pub mark_in : Logged K V → Option (K → Option V)
  mark_in map = if map.marked then Some (before_in map.log (content_in map)) else None

  -- whether something was put at a key since the mark
  abbrev pub is_changed : Logged K V → K → Bool
  is_changed map key = is_some (lookup (is_at (cmp key)) map.log)
