-- What a follower logs of a frame, where the log is told.
use Rattle.std.proofs.Common.{◌≡◌, inl, inr, List, Option, refl, sym, subst}
use Rattle.ox_outside.specs.Event.{Event}
use Rattle.ox_outside.specs.Log.{Grows}
use Rattle.ox_outside.proofs.Log.{grows_then, grows_weaker}
use Rattle.ox_feed.specs.Feed.{Feed}
use Rattle.ox_follow.specs.Frame.{Frame, Have, spelled}
use Rattle.ox_follow.specs.World.{Stood}
use Rattle.ox_model.specs.Stack.{Stack}
use Rattle.ox_outside.specs.Event.{shown_bytes}
use Rattle.ox_pieces.specs.Frames.{Advances, GivesFrame}
use Rattle.ox_app.specs.OneFrame.{EndsBy, EndsFrom, LeavesAt, TookFrame, judged_by, shown_follower}
use Rattle.ox_app.specs.Show.{ShowsWhole}
use Rattle.ox_app.specs.declared.status.Status.{Status}
use Rattle.ox_app.specs.declared.status.Status.TheVariants as ends
use Rattle.ox_app.proofs.FollowMoments.{Unanswered, answered, heard_unanswered, passed}
use Rattle.ox_app.proofs.FrameTalks.{follows_end}
use Rattle.ox_app.proofs.Statuses.{ends_apart}
use Rattle.ox_app.proofs.TalkFaults.{no_end_stops}
use Rattle.ox_app.proofs.TalkLogs.{logs_ended, logs_stopped}

module _ (mine : Stood Stack) (frame : Frame) (feed heard : Feed) (log now : Option (List Event)) (went : Grows (Advances feed heard) log now) (gives : GivesFrame frame heard.rest) where
  -- a frame isn't taken
  pub logs_untaken : (status : Status) → EndsBy (judged_by mine frame) status → Grows (EndsFrom (shown_follower mine) feed heard status) log now
  logs_untaken status (inl ended) = logs_ended (shown_follower mine) feed heard log now went status (follows_end mine heard status frame ended.0 gives ended.1 ended.2)
  logs_untaken status (inr (inl is)) =
      subst (λ (s : Status). Grows (EndsFrom (shown_follower mine) feed heard s) log now) (sym is)
      (logs_stopped (shown_follower mine) feed heard log now went ends.DiskFault (no_end_stops ends.DiskFault (refl, refl, refl, refl)) (ends_apart ends.DiskFault ends.TooMuch refl))
  logs_untaken status (inr (inr is)) =
      subst (λ (s : Status). Grows (EndsFrom (shown_follower mine) feed heard s) log now) (sym is)
      (logs_stopped (shown_follower mine) feed heard log now went ends.Memory (no_end_stops ends.Memory (refl, refl, refl, refl)) (ends_apart ends.Memory ends.TooMuch refl))

  -- one is taken, and nothing shown yet
  pub logs_taken : (next : Stood Stack) → LeavesAt mine (judged_by mine frame) next → Grows (Unanswered mine feed next (passed heard)) log now
  logs_taken next leaves =
      grows_weaker (Advances feed heard) (Unanswered mine feed next (passed heard)) log now (λ y advanced. heard_unanswered mine frame feed heard next y advanced gives leaves) went

-- its Have is shown
pub logs_followed : (mine next : Stood Stack) (feed behind : Feed) (log now after : Option (List Event)) → Grows (Unanswered mine feed next behind) log now → Grows (ShowsWhole (spelled (Have next.at))) now after
    → Grows (λ events. TookFrame mine feed next behind events × (shown_bytes 0 events ≡ spelled (Have next.at))) log after
logs_followed mine next feed behind log now after =
    grows_then (Unanswered mine feed next behind) (ShowsWhole (spelled (Have next.at))) (λ events. TookFrame mine feed next behind events × (shown_bytes 0 events ≡ spelled (Have next.at))) log now after
    (λ y z took shows. answered mine feed behind next y z took shows)
