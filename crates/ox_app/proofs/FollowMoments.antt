-- What a crash leaves at each moment of a run of a follower.
use Rattle.std.proofs.Common.{◌≡◌, ◌∙◌, inl, inr, ℕ, suc, zero, List, [], ◌∷◌, ◌++◌, Option, Some, refl, sym, ap, subst}
use Rattle.std.proofs.lemmas.List.{append-nil}
use Rattle.ox_outside.specs.Crash.{Remains}
use Rattle.ox_outside.specs.Event.{Event, heard_bytes, shown_bytes}
use Rattle.ox_outside.specs.Files.{Files}
use Rattle.ox_outside.specs.Log.{Grows}
use Rattle.ox_outside.specs.Runs.{LeavesOnly, OnlyLooks, OnlyTalks}
use Rattle.ox_outside.specs.declared.site.Site.{Ghosts as Meanings}
use Rattle.ox_outside.proofs.Calls.{leaves_then, leaves_weaker}
use Rattle.ox_outside.proofs.Event.{heard_bytes-append, shown_bytes-append}
use Rattle.ox_outside.proofs.Log.{grows_none, grows_same, grows_then, grows_weaker}
use Rattle.ox_feed.specs.Feed.{Feed, Listens}
use Rattle.ox_follow.specs.Frame.{Frame, Have, spelled}
use Rattle.ox_follow.specs.Talk.{followed}
use Rattle.ox_follow.specs.World.{Stood}
use Rattle.ox_gated.specs.Tail.{IsSettled}
use Rattle.ox_model.specs.Stack.{Stack}
use Rattle.ox_pieces.specs.Frames.{Advances, GivesFrame, behind_first, frames_in, frames_within}
use Rattle.ox_pieces.specs.Stood.{rules_of, stood_in}
use Rattle.ox_app.specs.Follow.{LeavesFollowing, SurvivesFrames, led_to}
use Rattle.ox_app.specs.OneFrame.{DuringFrame, LeavesAt, StandAtEither, TookFrame, judged_by}
use Rattle.ox_app.specs.Show.{ShowsFront, ShowsWhole}
use Rattle.ox_app.proofs.Crashes.{both}
use Rattle.ox_app.proofs.FeedAnswers.{hearings_show_nothing}
use Rattle.ox_app.proofs.FollowState.{HasFollowed}
use Rattle.ox_app.proofs.FrameCrashes.{survives_behind, survives_first, survives_rest}
use Rattle.ox_app.proofs.Talking.{counts_heard, counts_shown, counts_then}

-- the reader behind the frame in front
abbrev pub passed : Feed → Feed
passed feed = record feed { rest = behind_first feed.rest }

-- a frame was heard, and leaves the follower there
pub took_heard : (mine : Stood Stack) (frame : Frame) (feed heard : Feed) (next : Stood Stack) (y : List Event) → Advances feed heard y → GivesFrame frame heard.rest → LeavesAt mine (judged_by mine frame) next
    → TookFrame mine feed next (passed heard) y
took_heard mine frame feed heard next y went gives leaves = record {
  counts =
      let heard_all = counts_heard feed heard y went.hears in
      record { only = heard_all.only; count = heard_all.count; ended = heard_all.ended };
  frame = frame;
  first = λ more. ap (λ (l : List ℕ). frames_in (l ++ more)) (sym went.rest) ∙ gives.first more;
  leaves = leaves;
}

-- and something is shown behind it
pub took_shown : (mine : Stood Stack) (feed new : Feed) (next : Stood Stack) (said : List ℕ) (y z : List Event) → TookFrame mine feed next new y → ShowsFront said z → TookFrame mine feed next new (y ++ z)
took_shown mine feed new next said y z took shows = record {
  counts = counts_then feed new new y z took.counts (counts_shown new new z refl refl shows.quiet);
  frame = took.frame;
  first = λ more.
      ap (λ (l : List ℕ). frames_in ((feed.rest ++ l) ++ more)) (heard_bytes-append 0 y z ∙ ap (λ (l : List ℕ). heard_bytes 0 y ++ l) shows.quiet.unheard ∙ append-nil (heard_bytes 0 y))
      ∙ took.first more;
  leaves = took.leaves;
}

-- the same, where nothing was shown yet
abbrev pub Unanswered : Stood Stack → Feed → Stood Stack → Feed → List Event → Type 0
Unanswered mine feed next new events = TookFrame mine feed next new events × (shown_bytes 0 events ≡ [])

pub heard_unanswered : (mine : Stood Stack) (frame : Frame) (feed heard : Feed) (next : Stood Stack) (y : List Event) → Advances feed heard y → GivesFrame frame heard.rest → LeavesAt mine (judged_by mine frame) next
    → Unanswered mine feed next (passed heard) y
heard_unanswered mine frame feed heard next y went gives leaves = (took_heard mine frame feed heard next y went gives leaves, hearings_show_nothing y went.hears.only)

-- all that was shown stands behind it
shown_behind : (y z : List Event) → shown_bytes 0 y ≡ [] → shown_bytes 0 (y ++ z) ≡ shown_bytes 0 z
shown_behind y z none = shown_bytes-append 0 y z ∙ ap (λ (l : List ℕ). l ++ shown_bytes 0 z) none

-- its Have is shown
pub answered : (mine : Stood Stack) (feed new : Feed) (next : Stood Stack) (y z : List Event) → Unanswered mine feed next new y → ShowsWhole (spelled (Have next.at)) z
    → TookFrame mine feed next new (y ++ z) × (shown_bytes 0 (y ++ z) ≡ spelled (Have next.at))
answered mine feed new next y z took shows = (
  took_shown mine feed new next (spelled (Have next.at)) y z took.0 (record { quiet = shows.quiet; shown = ([], append-nil (shown_bytes 0 z) ∙ shows.shown) }),
  shown_behind y z took.1 ∙ shows.shown,
)

heard_either : (mine : Stood Stack) (frame : Frame) (feed heard : Feed) (files : Files) (y : List Event) → Advances feed heard y → GivesFrame frame heard.rest → StandAtEither mine frame files → DuringFrame mine feed files y
heard_either mine frame feed heard files y went gives (inl before) = inl (record { only = went.hears.only; quiet = went.hears.quiet }, before)
heard_either mine frame feed heard files y went gives (inr behind) = inr (record {
  next = behind.0;
  new = passed heard;
  took = took_heard mine frame feed heard behind.0 y went gives behind.1;
  shown = (spelled (Have behind.0.at), ap (λ (l : List ℕ). l ++ spelled (Have behind.0.at)) (hearings_show_nothing y went.hears.only));
  stands_for = behind.2;
})

module _ {S : Type 0} (means : Meanings S) where
  abbrev pub During : Stood Stack → Feed → S → Remains → Type 0
  During mine feed old r = Grows (DuringFrame mine feed r.files) (means.log old) (Some r.log)

  -- files that a crash leaves of a site whose files are all on the disk
  same_place : (old : S) (mine : Stood Stack) → IsSettled means old → stood_in (means.seen old) ≡ Some mine → (files : Files) (q : Remains) → means.may_leave old q → files ≡ q.files → stood_in files ≡ Some mine
  same_place old mine settled stood files q left is = ap stood_in (is ∙ settled q left) ∙ stood

  -- while a frame is heard
  pub during_hearing : (mine : Stood Stack) (feed : Feed) (old mid : S) → OnlyTalks means (Listens feed) old mid → IsSettled means old → stood_in (means.seen old) ≡ Some mine
      → LeavesOnly means old mid (During mine feed old)
  during_hearing mine feed old mid talks settled stood =
      leaves_weaker means old mid _ (During mine feed old) (λ r talked.
      grows_weaker (Listens feed) (DuringFrame mine feed r.files) (means.log old) (Some r.log)
      (λ y listened. inl (listened, same_place old mine settled stood r.files talked.files.0 talked.files.1 talked.files.2)) talked.grown) talks.moments

  -- while it is taken
  pub during_taking : (mine : Stood Stack) (frame : Frame) (feed heard : Feed) (old mid new : S) → GivesFrame frame heard.rest → Grows (Advances feed heard) (means.log old) (means.log mid)
      → LeavesOnly means mid new (λ r. means.log mid ≡ Some r.log) → LeavesOnly means mid new (λ r. StandAtEither mine frame r.files) → LeavesOnly means mid new (During mine feed old)
  during_taking mine frame feed heard old mid new gives went logged either =
      leaves_weaker means mid new _ (During mine feed old) (λ r is.
      grows_weaker (Advances feed heard) (DuringFrame mine feed r.files) (means.log old) (Some r.log)
      (λ y advanced. heard_either mine frame feed heard r.files y advanced gives is.1) (grows_same (Advances feed heard) (means.log old) (means.log mid) (Some r.log) went (sym is.0)))
      (both means mid new _ _ logged either)

  -- while its Have is shown
  pub during_showing : (mine next : Stood Stack) (feed behind : Feed) (old mid new : S) → Grows (Unanswered mine feed next behind) (means.log old) (means.log mid) → IsSettled means mid
      → stood_in (means.seen mid) ≡ Some next → OnlyTalks means (ShowsFront (spelled (Have next.at))) mid new → LeavesOnly means mid new (During mine feed old)
  during_showing mine next feed behind old mid new took settled stood talks =
      leaves_weaker means mid new _ (During mine feed old) (λ r talked.
      grows_then (Unanswered mine feed next behind) (ShowsFront (spelled (Have next.at))) (DuringFrame mine feed r.files) (means.log old) (means.log mid) (Some r.log)
      (λ y z t s. inr (record {
        next = next;
        new = behind;
        took = took_shown mine feed behind next (spelled (Have next.at)) y z t.0 s;
        shown = (s.shown.0, ap (λ (l : List ℕ). l ++ s.shown.0) (shown_behind y z t.1) ∙ s.shown.1);
        stands_for = same_place mid next settled stood r.files talked.files.0 talked.files.1 talked.files.2;
      })) took talked.grown) talks.moments

  -- ---- a whole run

  -- by the rules of where it began
  abbrev pub RulesStay : Type 0
  RulesStay = (mine next : Stood Stack) (frame : Frame) → LeavesAt mine (judged_by mine frame) next → rules_of next.state ≡ rules_of mine.state

  abbrev pub Survived : Stood Stack → S → Remains → Type 0
  Survived first start r = Grows (λ events. SurvivesFrames first events r.files) (means.log start) (Some r.log)

  -- the first Have is shown
  pub survived_first : (first : Stood Stack) (start new : S) → IsSettled means start → stood_in (means.seen start) ≡ Some first → OnlyTalks means (ShowsFront (spelled (Have first.at))) start new
      → LeavesOnly means start new (Survived first start)
  survived_first first start new settled stood talks =
      leaves_weaker means start new _ (Survived first start) (λ r talked.
      grows_weaker (ShowsFront (spelled (Have first.at))) (λ events. SurvivesFrames first events r.files) (means.log start) (Some r.log)
      (λ x shows. survives_first first x r.files shows (same_place start first settled stood r.files talked.files.0 talked.files.1 talked.files.2)) talked.grown) talks.moments

  by_during : RulesStay → (first now : Stood Stack) (feed : Feed) (files : Files) (x y : List Event) → HasFollowed first feed now x → DuringFrame now feed files y → SurvivesFrames first (x ++ y) files
  by_during stay first now feed files x y so_far (inl rest) = survives_rest first feed now x so_far y files rest.0 rest.1
  by_during stay first now feed files x y so_far (inr behind) =
      survives_behind first feed now x so_far behind.new behind.next y behind.took (stay now behind.next behind.took.frame behind.took.leaves) files behind.shown behind.stands_for

  -- one frame more
  pub survived_frame : RulesStay → (first now : Stood Stack) (feed : Feed) (start old new : S) → LeavesOnly means start old (Survived first start) → Grows (HasFollowed first feed now) (means.log start) (means.log old)
      → LeavesOnly means old new (During now feed old) → LeavesOnly means start new (Survived first start)
  survived_frame stay first now feed start old new so_far followed during =
      leaves_then means start old new (Survived first start) so_far
      (leaves_weaker means old new (During now feed old) (Survived first start) (λ r d.
      grows_then (HasFollowed first feed now) (DuringFrame now feed r.files) (λ events. SurvivesFrames first events r.files)
      (means.log start) (means.log old) (Some r.log) (λ x y f e. by_during stay first now feed r.files x y f e) followed d) during)

  -- ---- files that are opened, and then followed

  abbrev pub LeavesFrom : Stood Stack → S → Remains → Type 0
  LeavesFrom mine old r = Grows (LeavesFollowing means.may_leave old mine r.files) (means.log old) (Some r.log)

  none_led : (mine : Stood Stack) (n : ℕ) → led_to mine n [] ≡ mine
  unfolding frames_within followed
  none_led mine zero = refl
  none_led mine (suc n) = refl

  by_events : (mine : Stood Stack) (old : S) (files : Files) (events : List Event) → SurvivesFrames mine events files → LeavesFollowing means.may_leave old mine files events
  by_events mine old files [] survives = inr (survives.stands_for ∙ ap (λ (s : Stood Stack). Some s) (none_led mine survives.kept))
  by_events mine old files (event ∷ events) survives = survives

  -- nothing was logged, and the files might have been left before
  pub left_before : ((site : S) (r : Remains) → means.may_leave site r → means.log site ≡ Some r.log) → (mine : Stood Stack) (old : S) (r : Remains) → means.may_leave old r → LeavesFrom mine old r
  left_before logs_now mine old r left =
      grows_same (LeavesFollowing means.may_leave old mine r.files) (means.log old) (means.log old) (Some r.log)
      (grows_none (LeavesFollowing means.may_leave old mine r.files) (means.log old) (inl (r, left, refl))) (sym (logs_now old r left))

  pub opened_then_survived : ((site : S) (r : Remains) → means.may_leave site r → means.log site ≡ Some r.log) → (mine : Stood Stack) (old mid new : S) → OnlyLooks means old mid
      → LeavesOnly means mid new (Survived mine mid) → LeavesOnly means old new (LeavesFrom mine old)
  opened_then_survived logs_now mine old mid new looks followed =
      leaves_then means old mid new (LeavesFrom mine old)
      (leaves_weaker means old mid (means.may_leave old) (LeavesFrom mine old) (left_before logs_now mine old) looks.moments)
      (leaves_weaker means mid new _ (LeavesFrom mine old) (λ r survived.
      grows_weaker (λ events. SurvivesFrames mine events r.files) (LeavesFollowing means.may_leave old mine r.files) (means.log old) (Some r.log) (by_events mine old r.files)
      (subst (λ (l : Option (List Event)). Grows (λ events. SurvivesFrames mine events r.files) l (Some r.log)) looks.nothing.as_logged survived)) followed)
