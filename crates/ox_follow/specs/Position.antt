-- Positions: the program's, ordered.
use Rattle.std.specs.Prelude.{◌≡◌, ◌⊎◌, ◌<◌, ◌^◌, ℕ, suc, Bool, ◌==◌, ◌&&◌}
use Rattle.ox_follow.specs.declared.frame.Position.{Position}

-- ordered by generation and then place
abbrev pub Below : Position → Position → Type 0
Below one other =
    (one.generation < other.generation)
    ⊎ ((one.generation ≡ other.generation) × (one.place < other.place))

abbrev pub AtMost : Position → Position → Type 0
AtMost one other = (one ≡ other) ⊎ Below one other

abbrev pub is_same : Position → Position → Bool
is_same one other = one.generation == other.generation && one.place == other.place

-- the place behind one more record
abbrev pub next_place : Position → Position
next_place at = record { generation = at.generation; place = suc at.place }

-- where a generation begins
abbrev pub start_of : ℕ → Position
start_of generation = record { generation = generation; place = 0 }

-- both numbers have 64 bits
pub record FitsPosition (at : Position) : Type 0 where
  pub generation : at.generation < 2 ^ 64
  pub place : at.place < 2 ^ 64
