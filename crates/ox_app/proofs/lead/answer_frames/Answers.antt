use Rattle.std.proofs.Common.{subst, sym}
use Rattle.ox_feed.specs.Feed.{Feed, new_feed}
use Rattle.ox_outside.proofs.Counts.{no_fault_then, no_fault_yet}
use Rattle.ox_outside.proofs.OnlyTalks.{talks_none}
use Rattle.ox_outside.specs.Log.{Grows}
use Rattle.ox_app.specs.Fold.{Anything}
use Rattle.ox_app.specs.OneFrame.{GoesOn}
use Rattle.ox_app.specs.Talks.{leader_party}
use Rattle.ox_app.proofs.TalkFaults.{faults_after, faults_as, faults_went}
use Rattle.ox_app.proofs.TalkLogs.{logs_none, logs_on, logs_run}
use Rattle.ox_app.proofs.TalksOn.{talks_on}
use Rattle.ox_app.proofs.lead.answer_frames.Goals as goal

pub loop-status-init : goal.loop-status-init
loop-status-init g c =
    let party = leader_party c.args.leader.now in
    let log = g.S.Site.log c.args.site.now in (
      subst (λ (f : Feed). Grows (GoesOn party new_feed party f) log log) (sym c.new-frames.ensures) (logs_none party new_feed log),
      talks_none g.S.Site g.met.S.Site.only_now g.met.S.Site.logs_now Anything c.args.site.now tt,
      no_fault_yet (g.S.Site.counts c.args.site.now),
    )

pub loop-status-preserved : goal.loop-status-preserved
loop-status-preserved g c =
    let party = leader_party c.args.leader.now in
    let log = g.S.Site.log in
    let kept = c.loop-status.invariant in (
      logs_on party party party new_feed c.loop-status.frames c.answer_next.new.frames (log c.args.site.now) (log c.loop-status.site) (log c.answer_next.new.site) kept.0 c.in_default.ensures.told,
      talks_on g.S.Site (GoesOn party new_feed party c.loop-status.frames) Anything c.args.site.now c.loop-status.site c.answer_next.new.site kept.1 kept.0 c.answer_next.ensures.talks,
      no_fault_then _ _ _ kept.2 (faults_went g.S.Site c.in_default.field-0 c.loop-status.site c.answer_next.new.site c.in_default.ensures.faults),
    )

pub returns-in-Err : goal.returns-in-Err
returns-in-Err g c =
    let party = leader_party c.args.leader.now in
    let log = g.S.Site.log in
    let kept = c.loop-status.invariant in record {
      told = logs_run party party c.loop-status.frames c.answer_next.new.frames c.in-Err.status (log c.args.site.now) (log c.loop-status.site) (log c.answer_next.new.site) c.answer_next.ensures.count kept.0 c.in-Err.ensures.told;
      status = c.in-Err.ensures.status;
      faults =
          faults_after g.S.Site _ c.args.site.now c.loop-status.site c.answer_next.new.site kept.2 kept.1.calls.none_fell
          (faults_as g.S.Site c.in-Err.status c.loop-status.site c.answer_next.new.site c.in-Err.ensures.faults);
      talks = talks_on g.S.Site (GoesOn party new_feed party c.loop-status.frames) Anything c.args.site.now c.loop-status.site c.answer_next.new.site kept.1 kept.0 c.answer_next.ensures.talks;
    }
