use Rattle.std.proofs.Common.{◌∙◌, ap, arith, inl, inr, refl}
use Rattle.std.specs.Prelude.{Ok, Err}
use Rattle.std.proofs.lemmas.Result.{err_from_is_err_and}
use Rattle.ox_follow.specs.Frame.{Have, plain, spelled}
use Rattle.ox_follow.specs.declared.frame.Position.{Position}
use Rattle.ox_outside.proofs.Calls.{calls_then, leaves_then}
use Rattle.ox_outside.proofs.Counts.{no_fault_then}
use Rattle.ox_outside.proofs.Log.{grows_same}
use Rattle.ox_pieces.specs.Frames.{Advances}
use Rattle.ox_pieces.specs.Stood.{stood_in}
use Rattle.ox_app.specs.OneFrame.{EndsFrom, shown_follower}
use Rattle.ox_app.proofs.Crashes.{holds_on}
use Rattle.ox_app.proofs.FollowLogs.{logs_followed, logs_taken, logs_untaken}
use Rattle.ox_app.proofs.FollowMoments.{During, Unanswered, during_hearing, during_showing, during_taking, passed}
use Rattle.ox_app.proofs.FrontAnswers.{follow_ended, front_follow}
use Rattle.ox_app.proofs.FrameTalks.{follows_on}
use Rattle.ox_app.proofs.FollowRules.{left_rules}
use Rattle.ox_app.proofs.ShownParts.{fronts_as, shows_as}
use Rattle.ox_app.proofs.Stops.{all_shown}
use Rattle.ox_app.proofs.TalkFaults.{faults_after, faults_went, heard_follow, heard_well, hearing_faults, no_faults, no_faults_yet, showing_faults}
use Rattle.ox_app.proofs.TalkLogs.{logs_ended, logs_unheard, logs_unshown}
use Rattle.ox_app.proofs.follow.follow_next.Goals as goal

pub returns-in_err-advance : goal.returns-in_err-advance
returns-in_err-advance g c =
    let p = err_from_is_err_and c.from_residual.result c.from_residual.ensures.1 in
    let means = g.S.Site in
    let log = means.log in
    let mine = c.args.follower.mine in
    let feed = c.args.frames.now in
    let heard = c.advance.new.self in
    let old = c.args.site.now in
    let mid = c.advance.new.site in
    let fault = c.in_err-advance.field-0.0 in record {
      told = rw (p.1, p.2) (logs_unheard (shown_follower mine) feed heard (log old) (log mid) c.in_err-advance.ensures.told fault c.in_err-advance.ensures.too_much);
      during = λ told stood. during_hearing means mine feed old mid c.advance.ensures.talks (c.requires.holds told).settled stood;
      holds = λ told. rw p.1 tt;
      stands = λ told stood. rw p.1 tt;
      fewer = rw p.1 tt;
      count = c.advance.ensures.count;
      status = rw (p.1, p.2) (heard_follow fault);
      faults = rw (p.1, p.2) (hearing_faults means fault old mid c.in_err-advance.ensures.hear_fault c.in_err-advance.ensures.counted);
      calls = c.advance.ensures.talks.calls;
    }

pub returns-in_err-frame : goal.returns-in_err-frame
returns-in_err-frame g c =
    let p = err_from_is_err_and c.from_residual-in_err-frame.result c.from_residual-in_err-frame.ensures.1 in
    let means = g.S.Site in
    let log = means.log in
    let mine = c.args.follower.mine in
    let feed = c.args.frames.now in
    let heard = c.advance.new.self in
    let old = c.args.site.now in
    let mid = c.advance.new.site in
    let status = c.in_err-frame.field-0.0 in
    let there = follow_ended mine heard status c.in_err-frame.ensures in record {
      told = rw (p.1, p.2) (logs_ended (shown_follower mine) feed heard (log old) (log mid) c.in_ok-advance.ensures.told status there);
      during = λ told stood. during_hearing means mine feed old mid c.advance.ensures.talks (c.requires.holds told).settled stood;
      holds = λ told. rw p.1 tt;
      stands = λ told stood. rw p.1 tt;
      fewer = rw p.1 tt;
      count = c.advance.ensures.count;
      status = rw (p.1, p.2) (front_follow heard status c.in_err-frame.ensures);
      faults = rw (p.1, p.2) (no_faults means there.end status old mid there.ends_as (heard_well _ _ _ c.in_ok-advance.ensures.counted));
      calls = c.advance.ensures.talks.calls;
    }

pub returns-in_err-next : goal.returns-in_err-next
returns-in_err-next g c =
    let p = err_from_is_err_and c.from_residual-in_err-next.result c.from_residual-in_err-next.ensures.1 in
    let means = g.S.Site in
    let log = means.log in
    let mine = c.args.follower.mine in
    let feed = c.args.frames.now in
    let heard = c.advance.new.self in
    let old = c.args.site.now in
    let mid = c.advance.new.site in
    let frame = plain c.in_ok-frame.frame in
    let gives = c.in_ok-frame.ensures in
    let went = c.in_ok-advance.ensures.told in
    let taken = c.take.new.site in
    let writes = c.take.ensures.writes in
    let status = c.in_err-next.field-0.0 in record {
      told =
          rw (p.1, p.2)
          (grows_same (EndsFrom (shown_follower mine) feed heard status) (log old) (log mid) (log taken) (logs_untaken mine frame feed heard (log old) (log mid) went gives status c.in_err-next.ensures.ended) writes.as_logged);
      during = λ told stood.
          let told_mid = c.advance.ensures.talks.calls.as_told ∙ told in
          let stood_mid = ap stood_in c.advance.ensures.talks.files.files ∙ stood in
          leaves_then means old mid taken (During means mine feed old)
          (during_hearing means mine feed old mid c.advance.ensures.talks (c.requires.holds told).settled stood)
          (during_taking means mine frame feed heard old mid taken gives went writes.moments (c.take.ensures.any_moment told_mid stood_mid));
      holds = λ told. rw p.1 tt;
      stands = λ told stood. rw p.1 tt;
      fewer = rw p.1 tt;
      count = c.advance.ensures.count;
      status = rw (p.1, p.2) c.in_err-next.ensures.status;
      faults = rw (p.1, p.2) (faults_after means _ old mid taken (heard_well _ _ _ c.in_ok-advance.ensures.counted) c.advance.ensures.talks.calls.none_fell c.in_err-next.ensures.faults);
      calls = calls_then means old mid taken c.advance.ensures.talks.calls writes.calls;
    }

pub returns-in_err-show_all : goal.returns-in_err-show_all
returns-in_err-show_all g c =
    let p = err_from_is_err_and c.from_residual-in_err-show_all.result c.from_residual-in_err-show_all.ensures.1 in
    let means = g.S.Site in
    let log = means.log in
    let mine = c.args.follower.mine in
    let feed = c.args.frames.now in
    let heard = c.advance.new.self in
    let old = c.args.site.now in
    let mid = c.advance.new.site in
    let frame = plain c.in_ok-frame.frame in
    let gives = c.in_ok-frame.ensures in
    let went = c.in_ok-advance.ensures.told in
    let taken = c.take.new.site in
    let writes = c.take.ensures.writes in
    let next = c.in_ok-next.next.mine in
    let new = c.show_all.new.site in
    let said = spelled (Have next.at) in
    let same = c.have_front.ensures ∙ ap (λ (at : Position). spelled (Have at)) c.position.ensures in
    let talks = fronts_as c.have_front.result said same means taken new c.show_all.ensures.talks in
    let took = grows_same (Unanswered mine feed next (passed heard)) (log old) (log mid) (log taken) (logs_taken mine frame feed heard (log old) (log mid) went gives next c.in_ok-next.ensures.leaves) writes.as_logged in
    let first = follows_on mine frame heard.rest next gives c.in_ok-next.ensures.leaves (left_rules mine next frame c.in_ok-next.ensures.leaves) in record {
      told =
          rw (p.1, p.2, c.pass.ensures)
          (logs_unshown (shown_follower mine) feed heard (log old) (log taken) (grows_same (Advances feed heard) (log old) (log mid) (log taken) went writes.as_logged) (shown_follower next) said first (log new)
          (shows_as c.have_front.result said same (Err c.in_err-show_all.field-0.0) (log taken) (log new) c.in_err-show_all.ensures.told));
      during = λ told stood.
          let told_mid = c.advance.ensures.talks.calls.as_told ∙ told in
          let stood_mid = ap stood_in c.advance.ensures.talks.files.files ∙ stood in
          leaves_then means old taken new (During means mine feed old)
          (leaves_then means old mid taken (During means mine feed old)
          (during_hearing means mine feed old mid c.advance.ensures.talks (c.requires.holds told).settled stood)
          (during_taking means mine frame feed heard old mid taken gives went writes.moments (c.take.ensures.any_moment told_mid stood_mid)))
          (during_showing means mine next feed (passed heard) old taken new took (c.in_ok-next.ensures.holds told_mid).settled (c.in_ok-next.ensures.stands told_mid stood_mid) talks);
      holds = λ told. rw p.1 tt;
      stands = λ told stood. rw p.1 tt;
      fewer = rw p.1 tt;
      count = rw c.pass.ensures c.advance.ensures.count;
      status = rw (p.1, p.2) (inr (inr (inr (inr (inr (inl refl))))));
      faults =
          rw (p.1, p.2)
          (faults_after means _ old taken new (no_fault_then _ _ _ (heard_well _ _ _ c.in_ok-advance.ensures.counted) (faults_went means c.in_ok-next.next mid taken c.in_ok-next.ensures.faults))
          (calls_then means old mid taken c.advance.ensures.talks.calls writes.calls).none_fell
          (showing_faults means c.show_all.result taken new c.in_err-show_all.ensures.failed c.show_all.ensures.counted));
      calls = calls_then means old taken new (calls_then means old mid taken c.advance.ensures.talks.calls writes.calls) talks.calls;
    }

pub returns : goal.returns
returns g c =
    let means = g.S.Site in
    let log = means.log in
    let mine = c.args.follower.mine in
    let feed = c.args.frames.now in
    let heard = c.advance.new.self in
    let old = c.args.site.now in
    let mid = c.advance.new.site in
    let frame = plain c.in_ok-frame.frame in
    let gives = c.in_ok-frame.ensures in
    let went = c.in_ok-advance.ensures.told in
    let taken = c.take.new.site in
    let writes = c.take.ensures.writes in
    let next = c.in_ok-next.next.mine in
    let new = c.show_all.new.site in
    let said = spelled (Have next.at) in
    let same = c.have_front.ensures ∙ ap (λ (at : Position). spelled (Have at)) c.position.ensures in
    let talks = fronts_as c.have_front.result said same means taken new c.show_all.ensures.talks in
    let took = grows_same (Unanswered mine feed next (passed heard)) (log old) (log mid) (log taken) (logs_taken mine frame feed heard (log old) (log mid) went gives next c.in_ok-next.ensures.leaves) writes.as_logged in
    record {
      told =
          rw c.pass.ensures
          (logs_followed mine next feed (passed heard) (log old) (log taken) (log new) took (shows_as c.have_front.result said same (Ok c.in_ok-show_all.field-0) (log taken) (log new) c.in_ok-show_all.ensures.told));
      during = λ told stood.
          let told_mid = c.advance.ensures.talks.calls.as_told ∙ told in
          let stood_mid = ap stood_in c.advance.ensures.talks.files.files ∙ stood in
          leaves_then means old taken new (During means mine feed old)
          (leaves_then means old mid taken (During means mine feed old)
          (during_hearing means mine feed old mid c.advance.ensures.talks (c.requires.holds told).settled stood)
          (during_taking means mine frame feed heard old mid taken gives went writes.moments (c.take.ensures.any_moment told_mid stood_mid)))
          (during_showing means mine next feed (passed heard) old taken new took (c.in_ok-next.ensures.holds told_mid).settled (c.in_ok-next.ensures.stands told_mid stood_mid) talks);
      holds = λ told. holds_on means taken new c.in_ok-next.next.tail talks.files (c.in_ok-next.ensures.holds (c.advance.ensures.talks.calls.as_told ∙ told));
      stands = λ told stood.
          ap stood_in talks.files.files ∙ c.in_ok-next.ensures.stands (c.advance.ensures.talks.calls.as_told ∙ told) (ap stood_in c.advance.ensures.talks.files.files ∙ stood);
      fewer = rw c.pass.ensures (omega (arith, c.advance.ensures.left, gives.shorter));
      count = rw c.pass.ensures c.advance.ensures.count;
      status = tt;
      faults =
          no_faults_yet means _ old new
          (no_fault_then _ _ _ (no_fault_then _ _ _ (heard_well _ _ _ c.in_ok-advance.ensures.counted) (faults_went means c.in_ok-next.next mid taken c.in_ok-next.ensures.faults)) (all_shown _ _ c.in_ok-show_all.ensures.counted));
      calls = calls_then means old taken new (calls_then means old mid taken c.advance.ensures.talks.calls writes.calls) talks.calls;
    }
