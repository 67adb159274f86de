use Rattle.std.proofs.Common.{◌≡◌, ◌∙◌, ap, inl, inr, subst, sym}
use Rattle.ox_follow.specs.World.{Stood}
use Rattle.ox_model.specs.Stack.{Stack}
use Rattle.ox_outside.proofs.Calls.{calls_then, leaves_weaker}
use Rattle.ox_outside.proofs.Log.{grows_same}
use Rattle.ox_outside.specs.Log.{Grows}
use Rattle.ox_outside.specs.Runs.{LeavesOnly}
use Rattle.ox_pieces.proofs.StoodFiles.{stands_for_stood}
use Rattle.ox_pieces.specs.Stood.{led_stands, stood_in}
use Rattle.ox_app.specs.OneFrame.{RunFaults}
use Rattle.ox_app.specs.Status.{IsFollowStatus, IsUnopened, open_status}
use Rattle.ox_app.specs.Talks.{RunsTalk, follower_party}
use Rattle.ox_app.specs.declared.status.Status.{Status}
use Rattle.ox_app.specs.declared.status.Status.TheVariants as ends
use Rattle.ox_app.proofs.FollowMoments.{LeavesFrom, left_before, opened_then_survived}
use Rattle.ox_app.proofs.Images.{grows_from, only_looked}
use Rattle.ox_app.proofs.OpenedTalks.{follow_opened, no_misfit_there, open_faults, open_unopened, same_some, unopened_talk}
use Rattle.ox_app.proofs.Opening.{no_misfit_stands}
use Rattle.ox_app.proofs.Stops.{opened_well}
use Rattle.ox_app.proofs.TalkFaults.{faults_after}
use Rattle.ox_app.proofs.follow.follow.Goals as goal

pub returns-in-Ok : goal.returns-in-Ok
returns-in-Ok g c =
    let means = g.S.Site in
    let old = c.args.site.now in
    let mid = c.open.new.site in
    let new = c.follow_frames.new.site in
    let log = means.log in
    let looks = c.open.ensures.looks in
    let began = c.in-Ok.follower.mine in
    let talk = c.follow_frames.ensures in record {
      follows = λ told mine opened. (
        follow_opened c.follow_frames.result talk.status,
        subst (λ (m : Stood Stack). Grows (RunsTalk (follower_party m) c.follow_frames.result) (log old) (log new)) (same_some (stood_in (means.seen old)) began mine (c.in-Ok.ensures.stood told) opened)
            (grows_from (RunsTalk (follower_party began) c.follow_frames.result) (log old) (log mid) (log new) looks.nothing.as_logged talk.told),
      );
      survives = λ told mine opened.
          let stood = c.in-Ok.ensures.stood told in
          subst (λ (m : Stood Stack). LeavesOnly means old new (LeavesFrom means m old)) (same_some (stood_in (means.seen old)) began mine stood opened)
          (opened_then_survived means g.met.S.Site.logs_now began old mid new looks (talk.survives (looks.calls.as_told ∙ told) (ap stood_in looks.nothing.files ∙ stood)));
      unopened = λ told misfit failed. no_misfit_stands (led_stands (means.seen old)) began.state misfit (stands_for_stood (means.seen old) began (c.in-Ok.ensures.stood told)) failed;
      looks = λ told misfit failed. no_misfit_stands (led_stands (means.seen old)) began.state misfit (stands_for_stood (means.seen old) began (c.in-Ok.ensures.stood told)) failed;
      not_store = λ is. absurd (follow_opened c.follow_frames.result talk.status is);
      status = inr talk.status;
      faults = faults_after means _ old mid new (opened_well c.in-Ok.follower _ _ c.in-Ok.ensures.counted) looks.calls.none_fell talk.faults;
      calls = calls_then means old mid new looks.calls talk.calls;
    }

pub returns-in-Err : goal.returns-in-Err
returns-in-Err g c =
    let means = g.S.Site in
    let old = c.args.site.now in
    let mid = c.open.new.site in
    let log = means.log in
    let looks = c.open.ensures.looks in
    let is = sym c.unopened.ensures in record {
      follows = λ told mine opened. (
        subst (λ (s : Status). s ≡ ends.NotStore → ⊥) is (no_misfit_there (led_stands (means.seen old)) mine.state c.in-Err.fault (stands_for_stood (means.seen old) mine opened) (c.in-Err.ensures.not_store told)),
        subst (λ (s : Status). Grows (RunsTalk (follower_party mine) s) (log old) (log mid)) is
            (grows_same (RunsTalk (follower_party mine) (open_status c.in-Err.fault)) (log old) (log old) (log mid) (unopened_talk (follower_party mine) c.in-Err.fault (log old)) looks.nothing.as_logged),
      );
      survives = λ told mine opened. leaves_weaker means old mid (means.may_leave old) (LeavesFrom means mine old) (left_before means g.met.S.Site.logs_now mine old) looks.moments;
      unopened = λ told misfit failed. (subst IsUnopened is (open_unopened c.in-Err.fault), looks.nothing.as_logged);
      looks = λ told misfit failed. only_looked means old mid looks;
      not_store = λ no. (only_looked means old mid looks, looks.nothing.as_logged);
      status = subst IsFollowStatus is (inl (open_unopened c.in-Err.fault));
      faults = subst (λ (s : Status). RunFaults means s old mid) is (open_faults means c.in-Err.fault old mid c.in-Err.ensures.failed c.in-Err.ensures.counted);
      calls = looks.calls;
    }
