use Rattle.std.proofs.Common.{◌≡◌, ◌∙◌, [], ap, arith, inl, inr, refl, subst, sym}
use Rattle.std.specs.Prelude.{Ok, Err}
use Rattle.ox_feed.specs.Feed.{Feed, new_feed}
use Rattle.ox_follow.specs.Frame.{Have, spelled}
use Rattle.ox_follow.specs.declared.frame.Position.{Position}
use Rattle.ox_outside.proofs.Calls.{calls_then}
use Rattle.ox_outside.proofs.Counts.{no_fault_then}
use Rattle.ox_outside.proofs.Log.{grows_then, grows_weaker}
use Rattle.ox_outside.specs.Event.{shown_bytes}
use Rattle.ox_outside.specs.Log.{Grows}
use Rattle.ox_pieces.specs.Stood.{stood_in}
use Rattle.ox_app.specs.OneFrame.{EndsFrom, GoesOn, TookFrame, shown_follower}
use Rattle.ox_app.specs.Show.{ShowsFront, ShowsWhole}
use Rattle.ox_app.specs.Talks.{follower_party}
use Rattle.ox_app.specs.declared.status.Status.TheVariants as ends
use Rattle.ox_app.proofs.Crashes.{holds_on}
use Rattle.ox_app.proofs.FollowMoments.{survived_first, survived_frame}
use Rattle.ox_app.proofs.FollowRules.{left_rules}
use Rattle.ox_app.proofs.FollowState.{HasFollowed}
use Rattle.ox_app.proofs.FrameCrashes.{followed_first, followed_frame, goes_followed}
use Rattle.ox_app.proofs.FrameTalks.{first_have}
use Rattle.ox_app.proofs.ShownParts.{fronts_as, shows_as}
use Rattle.ox_app.proofs.Statuses.{ends_apart}
use Rattle.ox_app.proofs.Stops.{all_shown}
use Rattle.ox_app.proofs.TalkFaults.{faults_after, faults_as, faults_went, no_end_stops, showing_faults}
use Rattle.ox_app.proofs.Talking.{ends_showing}
use Rattle.ox_app.proofs.TalkLogs.{logs_none, logs_run}
use Rattle.ox_app.proofs.follow.follow_frames.Goals as goal

pub loop-next-init : goal.loop-next-init
loop-next-init g c =
    let means = g.S.Site in
    let log = means.log in
    let first = c.args.follower.mine in
    let start = c.args.site.now in
    let begun = c.show_all.new.site in
    let said = spelled (Have first.at) in
    let same = c.have_front.ensures ∙ ap (λ (at : Position). spelled (Have at)) c.position.ensures in
    let talks = fronts_as c.have_front.result said same means start begun c.show_all.ensures.talks in
    let shows = shows_as c.have_front.result said same (Ok c.in_default.field-0) (log start) (log begun) c.in_default.ensures.told in (
      subst (λ (f : Feed). Grows (HasFollowed first f first) (log start) (log begun)) (sym c.new-frames.ensures)
          (grows_weaker (ShowsWhole said) (HasFollowed first new_feed first) (log start) (log begun) (followed_first first) shows),
      talks.calls,
      λ told. holds_on means start begun c.args.follower.tail talks.files (c.requires.holds told),
      λ told stood. ap stood_in talks.files.files ∙ stood,
      λ told stood. survived_first means first start begun (c.requires.holds told).settled stood talks,
      all_shown _ _ c.in_default.ensures.counted,
    )

pub loop-next-preserved : goal.loop-next-preserved
loop-next-preserved g c =
    let means = g.S.Site in
    let log = means.log in
    let first = c.args.follower.mine in
    let start = c.args.site.now in
    let kept = c.loop-next.invariant in
    let feed = c.loop-next.frames in
    let now = c.loop-next.follower.mine in
    let site = c.loop-next.site in
    let feed' = c.follow_next.new.frames in
    let new = c.follow_next.new.site in
    let next = c.in-Ok.next.mine in (
      grows_then (HasFollowed first feed now) (λ events. TookFrame now feed next feed' events × (shown_bytes 0 events ≡ spelled (Have next.at))) (HasFollowed first feed' next) (log start) (log site) (log new)
          (λ x y so_far took. followed_frame first feed now x so_far feed' next y took.0 (left_rules now next took.0.frame took.0.leaves) took.1) kept.0 c.in-Ok.ensures.told,
      calls_then means start site new kept.1 c.in-Ok.ensures.calls,
      λ told. c.in-Ok.ensures.holds (kept.1.as_told ∙ told),
      λ told stood. c.in-Ok.ensures.stands (kept.1.as_told ∙ told) (kept.3 told stood),
      λ told stood. survived_frame means left_rules first now feed start site new (kept.4 told stood) kept.0 (c.in-Ok.ensures.during (kept.1.as_told ∙ told) (kept.3 told stood)),
      no_fault_then _ _ _ kept.5 (faults_went means c.in-Ok.next site new c.in-Ok.ensures.faults),
    )

pub returns-in-Err : goal.returns-in-Err
returns-in-Err g c =
    let means = g.S.Site in
    let log = means.log in
    let first = c.args.follower.mine in
    let start = c.args.site.now in
    let begun = c.show_all.new.site in
    let said = spelled (Have first.at) in
    let same = c.have_front.ensures ∙ ap (λ (at : Position). spelled (Have at)) c.position.ensures in
    let talks = fronts_as c.have_front.result said same means start begun c.show_all.ensures.talks in
    let party = follower_party first in
    let shows = shows_as c.have_front.result said same (Err c.in-Err.field-0) (log start) (log begun) c.in-Err.ensures.told in record {
      told =
          logs_run party party new_feed new_feed ends.ShowFault (log start) (log start) (log begun) (omega arith) (logs_none party new_feed (log start))
          (grows_weaker (ShowsFront said) (EndsFrom party new_feed new_feed ends.ShowFault) (log start) (log begun)
          (λ x front. ends_showing party (shown_follower first) new_feed new_feed said [] ends.ShowFault x refl refl (first_have first) front (no_end_stops ends.ShowFault (refl, refl, refl, refl)) (ends_apart ends.ShowFault ends.TooMuch refl)) shows);
      survives = λ told stood. survived_first means first start begun (c.requires.holds told).settled stood talks;
      status = inr (inr (inr (inr (inr (inl refl)))));
      faults = showing_faults means c.show_all.result start begun c.in-Err.ensures.failed c.show_all.ensures.counted;
      calls = talks.calls;
    }

pub returns-in-Err-follow_next : goal.returns-in-Err-follow_next
returns-in-Err-follow_next g c =
    let means = g.S.Site in
    let log = means.log in
    let first = c.args.follower.mine in
    let start = c.args.site.now in
    let kept = c.loop-next.invariant in
    let feed = c.loop-next.frames in
    let now = c.loop-next.follower.mine in
    let site = c.loop-next.site in
    let feed' = c.follow_next.new.frames in
    let new = c.follow_next.new.site in
    let status = c.in-Err-follow_next.status in
    let last = c.in-Err-follow_next.ensures in record {
      told =
          logs_run (follower_party first) (shown_follower now) feed feed' status (log start) (log site) (log new) last.count
          (grows_weaker (HasFollowed first feed now) (GoesOn (follower_party first) new_feed (shown_follower now) feed) (log start) (log site) (λ x so_far. goes_followed first feed now x so_far) kept.0) last.told;
      survives = λ told stood. survived_frame means left_rules first now feed start site new (kept.4 told stood) kept.0 (last.during (kept.1.as_told ∙ told) (kept.3 told stood));
      status = last.status;
      faults = faults_after means _ start site new kept.5 kept.1.none_fell (faults_as means status site new last.faults);
      calls = calls_then means start site new kept.1 last.calls;
    }
