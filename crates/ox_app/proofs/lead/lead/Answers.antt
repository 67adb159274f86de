use Rattle.std.proofs.Common.{◌≡◌, inl, inr, subst, sym}
use Rattle.ox_follow.specs.World.{Leader}
use Rattle.ox_model.specs.Stack.{Stack}
use Rattle.ox_outside.proofs.Calls.{calls_then}
use Rattle.ox_outside.proofs.Log.{grows_same}
use Rattle.ox_outside.specs.Log.{Grows}
use Rattle.ox_pieces.specs.Stood.{leader_in, led_stands}
use Rattle.ox_app.specs.Fold.{Anything}
use Rattle.ox_app.specs.OneFrame.{RunFaults}
use Rattle.ox_app.specs.Status.{IsLeadStatus, IsUnopened, open_status}
use Rattle.ox_app.specs.Talks.{RunsTalk, leader_party}
use Rattle.ox_app.specs.declared.status.Status.{Status}
use Rattle.ox_app.proofs.Images.{grows_from, looked_then_talked, only_looked}
use Rattle.ox_app.proofs.OpenedTalks.{lead_opened, leader_stands, no_misfit_there, open_faults, open_unopened, same_some, unopened_talk}
use Rattle.ox_app.proofs.Opening.{no_misfit_stands}
use Rattle.ox_app.proofs.Stops.{opened_well}
use Rattle.ox_app.proofs.TalkFaults.{faults_after}
use Rattle.ox_app.specs.declared.status.Status.TheVariants as ends
use Rattle.ox_app.proofs.lead.lead.Goals as goal

pub returns-in-Ok : goal.returns-in-Ok
returns-in-Ok g c =
    let old = c.args.site.now in
    let mid = c.open.new.site in
    let new = c.answer_frames.new.site in
    let log = g.S.Site.log in
    let looks = c.open.ensures.looks in
    let talk = c.answer_frames.ensures in record {
      leads = λ told leader opened. (
        lead_opened c.answer_frames.result talk.status,
        subst (λ (l : Leader Stack). Grows (RunsTalk (leader_party l) c.answer_frames.result) (log old) (log new)) (same_some (leader_in (g.S.Site.seen old)) c.in-Ok.leader leader (c.in-Ok.ensures.leads told) opened)
            (grows_from (RunsTalk (leader_party c.in-Ok.leader) c.answer_frames.result) (log old) (log mid) (log new) looks.nothing.as_logged talk.told),
      );
      unopened = λ told misfit failed. no_misfit_stands (led_stands (g.S.Site.seen old)) c.in-Ok.leader.state misfit (leader_stands (g.S.Site.seen old) c.in-Ok.leader (c.in-Ok.ensures.leads told)) failed;
      not_store = λ is. absurd (lead_opened c.answer_frames.result talk.status is);
      status = inr talk.status;
      faults = faults_after g.S.Site _ old mid new (opened_well c.in-Ok.leader _ _ c.in-Ok.ensures.counted) looks.calls.none_fell talk.faults;
      looks = looked_then_talked g.S.Site Anything old mid new looks talk.talks;
      calls = calls_then g.S.Site old mid new looks.calls talk.talks.calls;
    }

pub returns-in-Err : goal.returns-in-Err
returns-in-Err g c =
    let old = c.args.site.now in
    let mid = c.open.new.site in
    let log = g.S.Site.log in
    let looks = c.open.ensures.looks in
    let is = sym c.unopened.ensures in record {
      leads = λ told leader opened. (
        subst (λ (s : Status). s ≡ ends.NotStore → ⊥) is (no_misfit_there (led_stands (g.S.Site.seen old)) leader.state c.in-Err.fault (leader_stands (g.S.Site.seen old) leader opened) (c.in-Err.ensures.not_store told)),
        subst (λ (s : Status). Grows (RunsTalk (leader_party leader) s) (log old) (log mid)) is
            (grows_same (RunsTalk (leader_party leader) (open_status c.in-Err.fault)) (log old) (log old) (log mid) (unopened_talk (leader_party leader) c.in-Err.fault (log old)) looks.nothing.as_logged),
      );
      unopened = λ told misfit failed. (subst IsUnopened is (open_unopened c.in-Err.fault), looks.nothing.as_logged);
      not_store = λ no. looks.nothing.as_logged;
      status = subst IsLeadStatus is (inl (open_unopened c.in-Err.fault));
      faults = subst (λ (s : Status). RunFaults g.S.Site s old mid) is (open_faults g.S.Site c.in-Err.fault old mid c.in-Err.ensures.failed c.in-Err.ensures.counted);
      looks = only_looked g.S.Site old mid looks;
      calls = looks.calls;
    }
