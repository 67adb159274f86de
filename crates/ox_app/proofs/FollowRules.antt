-- A frame changes no rules, whatever it leaves a follower.
use Rattle.std.proofs.Common.{◌≡◌, ◌∙◌, ap, refl}
use Rattle.ox_follow.specs.Frame.{Frame}
use Rattle.ox_follow.specs.Talk.{Ends, Judged, Stays, Takes}
use Rattle.ox_follow.specs.World.{Stood}
use Rattle.ox_model.specs.Stack.{Stack}
use Rattle.ox_pieces.proofs.HeadsOfPieces.{rules_kept}
use Rattle.ox_pieces.specs.Stood.{rules_of}
use Rattle.ox_app.specs.OneFrame.{LeavesAt, judged_by}

pub left_rules : (mine next : Stood Stack) (frame : Frame) → LeavesAt mine (judged_by mine frame) next → rules_of next.state ≡ rules_of mine.state
left_rules mine next frame leaves = by_how (judged_by mine frame) refl leaves
  where
    by_how : (how : Judged Stack) → judged_by mine frame ≡ how → LeavesAt mine how next → rules_of next.state ≡ rules_of mine.state
    by_how Stays is left = ap (λ (s : Stood Stack). rules_of s.state) left
    by_how (Takes taken) is left = ap (λ (s : Stood Stack). rules_of s.state) left ∙ rules_kept mine taken frame is
    by_how (Ends end) is left = absurd left
