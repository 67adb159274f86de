-- What a store holds.
use Rattle.std.specs.Prelude.{ℕ}
use Rattle.ox_gated.specs.Tail.{Kept}
use Rattle.ox_model.specs.Stack.{Stack}

-- the stack that its files stand for, the tail of their records, and how many commands were
-- accepted since it was opened
pub record StoreContents : Type 0 where
  pub stack : Stack
  pub tail : Kept
  pub commands : ℕ
