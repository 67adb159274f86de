-- What a frame is that a follower doesn't take: as it is judged, and the follower is as before. Out
-- of memory may be answered at any time, and nothing else.
use Rattle.std.specs.Prelude.{◌≡◌}
use Rattle.ox_follow.specs.Frame.{Frame}
use Rattle.ox_follow.specs.Talk.{BadFrame, Done, Ends, Stays, judged}
use Rattle.ox_pieces.specs.Follower.{FollowerContents}
use Rattle.ox_pieces.specs.Stood.{rules_of}
use Rattle.ox_pieces.specs.declared.follower.NotTaken.{NotTaken}
use Rattle.ox_pieces.specs.declared.follower.NotTaken.TheVariants.{IsLevel, Memory, NotFit, NotNext}

abbrev pub IsNotTaken : FollowerContents → Frame → NotTaken → Type 0
IsNotTaken before frame (NotNext follower) =
    (judged (rules_of before.mine.state) before.mine frame ≡ Stays) × (follower ≡ before)
IsNotTaken before frame (NotFit follower) =
    (judged (rules_of before.mine.state) before.mine frame ≡ Ends BadFrame) × (follower ≡ before)
IsNotTaken before frame (IsLevel follower) =
    (judged (rules_of before.mine.state) before.mine frame ≡ Ends Done) × (follower ≡ before)
IsNotTaken before frame Memory = Unit {0}
