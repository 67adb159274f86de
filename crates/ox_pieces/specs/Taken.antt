-- A piece that is taken: all its memory is there, and nothing of it is written yet.
use Rattle.std.specs.Prelude.{◌≡◌}
use Rattle.ox_gated.specs.Tail.{Kept}
use Rattle.ox_model.specs.Stack.{Stack}
use Rattle.ox_follow.specs.Frame.{Frame}
use Rattle.ox_follow.specs.Talk.{Takes, judged}
use Rattle.ox_follow.specs.World.{Stood}
use Rattle.ox_pieces.specs.Follower.{FollowerContents}
use Rattle.ox_pieces.specs.Stood.{rules_of}
use Rattle.ox_pieces.specs.Writing.{LeadsTo}
use Rattle.ox_pieces.specs.declared.writing.Writing.{Writing}

-- where the files then stand and what for, the tail before that, and what is written
pub record TakenPiece : Type 0 where
  pub next : Stood Stack
  pub tail : Kept
  pub writing : Writing

-- what is written leads on from here
abbrev pub Leads : Stood Stack → TakenPiece → Type 0
Leads before taken = LeadsTo before.state taken.next.state taken.writing

-- this follower takes this of a frame
pub record IsTaken (follower : FollowerContents) (frame : Frame) (taken : TakenPiece)
    : Type 0 where
  pub takes : judged (rules_of follower.mine.state) follower.mine frame ≡ Takes taken.next
  pub leads : Leads follower.mine taken
  pub tail : taken.tail ≡ follower.tail
