-- What a follower holds.
use Rattle.std.specs.Prelude.{◌≡◌}
use Rattle.ox_gated.specs.Tail.{Kept}
use Rattle.ox_gated.specs.declared.head.Head.{Head}
use Rattle.ox_model.specs.Stack.{Stack}
use Rattle.ox_follow.specs.World.{Stood}
use Rattle.ox_follow.specs.declared.frame.Position.{Position}
use Rattle.ox_store.specs.Heads.{Names}

-- where its files stand and what for, and the tail of their records
pub record FollowerContents : Type 0 where
  pub mine : Stood Stack
  pub tail : Kept

-- The head, of version 2, names the profile and the depth of this stack.
pub record NamesLed (head : Head) (stack : Stack) : Type 0 where
  pub version : head.version ≡ 2
  pub names : Names head stack

-- where files stand, by the tail of their records
abbrev pub position_of : Kept → Position
position_of tail = record { generation = tail.head.generation; place = tail.records }
