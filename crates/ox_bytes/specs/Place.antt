-- What contracts see of a cursor and of room.
use Rattle.std.specs.Prelude.{◌≡◌, ℕ, ◌+◌, List, ◌++◌, length}

-- a place in bytes, and the bytes from there on
pub record Place : Type 0 where
  pub place : ℕ
  pub left : List ℕ

-- The cursor has gone over these bytes, which stood there.
abbrev pub GoesOver : List ℕ → Place → Place → Type 0
GoesOver text old new = (old.left ≡ text ++ new.left) × (new.place ≡ old.place + length text)

-- bytes or other values, and how many more may be put behind them
pub record Space (A : Type 0) : Type 0 where
  pub filled : List A
  pub spare : ℕ
