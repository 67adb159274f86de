-- What a crash leaves while a follower takes a frame.
use Rattle.std.proofs.Common.{◌≡◌, ◌∙◌, inl, inr, Some, refl, ap}
use Rattle.ox_outside.specs.Crash.{Remains}
use Rattle.ox_outside.specs.Files.{Files}
use Rattle.ox_outside.specs.Runs.{LeavesOnly}
use Rattle.ox_outside.specs.declared.site.Site.{Ghosts as Meanings}
use Rattle.ox_outside.proofs.Calls.{leaves_at_first, leaves_weaker}
use Rattle.ox_follow.specs.Frame.{Frame}
use Rattle.ox_follow.specs.Talk.{Judged, Takes}
use Rattle.ox_follow.specs.World.{Stood}
use Rattle.ox_gated.specs.Tail.{IsSettled}
use Rattle.ox_model.specs.Stack.{Stack}
use Rattle.ox_pieces.specs.Stood.{stood_in}
use Rattle.ox_pieces.specs.Writing.{StandsEither}
use Rattle.ox_app.specs.OneFrame.{LeavesAt, StandAtEither, judged_by}

left_there : (mine next : Stood Stack) (how : Judged Stack) → how ≡ Takes next → LeavesAt mine how next
left_there mine next how is = rw is refl

module _ {S : Type 0} (means : Meanings S) (mine : Stood Stack) (frame : Frame) where
  -- it is taken
  pub taken_moments : (next : Stood Stack) (old new : S) → judged_by mine frame ≡ Takes next → LeavesOnly means old new (λ r. StandsEither mine next r.files) → LeavesOnly means old new (λ r. StandAtEither mine frame r.files)
  taken_moments next old new takes =
      leaves_weaker means old new (λ r. StandsEither mine next r.files) (λ r. StandAtEither mine frame r.files) (λ r. either r.files)
    where
      either : (files : Files) → StandsEither mine next files → StandAtEither mine frame files
      either files (inl before) = inl before
      either files (inr behind) = inr (next, left_there mine next (judged_by mine frame) takes, behind)

  -- nothing is written
  pub unmoved : ((site : S) (r : Remains) → means.left_since site (means.clock site) r → means.may_leave site r) → (site : S) → IsSettled means site → stood_in (means.seen site) ≡ Some mine
      → LeavesOnly means site site (λ r. StandAtEither mine frame r.files)
  unmoved only_now site settled stood =
      leaves_at_first means site (λ r. StandAtEither mine frame r.files) (λ r left. inl (ap stood_in (settled r (only_now site r left)) ∙ stood))
