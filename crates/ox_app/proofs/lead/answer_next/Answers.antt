use Rattle.std.proofs.Common.{arith, inl, inr, refl}
use Rattle.std.proofs.lemmas.Result.{err_from_is_err_and}
use Rattle.ox_feed.specs.Feed.{Listens}
use Rattle.ox_follow.specs.Frame.{plain, spelled}
use Rattle.ox_outside.proofs.Counts.{no_fault_then}
use Rattle.ox_outside.proofs.OnlyTalks.{talks_weaker}
use Rattle.ox_pieces.specs.Frames.{Advances}
use Rattle.ox_app.specs.Fold.{Anything}
use Rattle.ox_app.specs.Show.{ShowsFront}
use Rattle.ox_app.specs.Talks.{leader_party}
use Rattle.ox_app.proofs.Stops.{all_shown}
use Rattle.ox_app.proofs.TalkFaults.{faults_after, heard_lead, heard_well, hearing_faults, no_faults, no_faults_yet, showing_faults}
use Rattle.ox_app.proofs.TalkLogs.{logs_answered, logs_ended, logs_unheard, logs_unshown}
use Rattle.ox_app.proofs.TalksOn.{talks_on}
use Rattle.ox_app.proofs.lead.answer_next.Goals as goal

pub returns-in_err-advance : goal.returns-in_err-advance
returns-in_err-advance g c =
    let p = err_from_is_err_and c.from_residual.result c.from_residual.ensures.1 in
    let log = g.S.Site.log in record {
      told = rw (p.1, p.2) (logs_unheard (leader_party c.args.leader.now) c.args.frames.now c.advance.new.self (log c.args.site.now) (log c.advance.new.site) c.in_err-advance.ensures.told c.in_err-advance.field-0.0 c.in_err-advance.ensures.too_much);
      fewer = rw p.1 tt;
      count = c.advance.ensures.count;
      status = rw (p.1, p.2) (heard_lead c.in_err-advance.field-0.0);
      faults = rw (p.1, p.2) (hearing_faults g.S.Site c.in_err-advance.field-0.0 c.args.site.now c.advance.new.site c.in_err-advance.ensures.hear_fault c.in_err-advance.ensures.counted);
      talks = talks_weaker g.S.Site (Listens c.args.frames.now) Anything c.args.site.now c.advance.new.site (λ x l. tt) c.advance.ensures.talks;
    }

pub returns-in_err-answer : goal.returns-in_err-answer
returns-in_err-answer g c =
    let p = err_from_is_err_and c.from_residual-in_err-answer.result c.from_residual-in_err-answer.ensures.1 in
    let log = g.S.Site.log in
    let there = c.in_err-answer.ensures.answers in record {
      told = rw (p.1, p.2) (logs_ended (leader_party c.args.leader.now) c.args.frames.now c.advance.new.self (log c.args.site.now) (log c.advance.new.site) c.in_ok-advance.ensures.told c.in_err-answer.field-0.0 there);
      fewer = rw p.1 tt;
      count = c.advance.ensures.count;
      status = rw (p.1, p.2) c.in_err-answer.ensures.status;
      faults = rw (p.1, p.2) (no_faults g.S.Site there.end c.in_err-answer.field-0.0 c.args.site.now c.advance.new.site there.ends_as (heard_well _ _ _ c.in_ok-advance.ensures.counted));
      talks = talks_weaker g.S.Site (Listens c.args.frames.now) Anything c.args.site.now c.advance.new.site (λ x l. tt) c.advance.ensures.talks;
    }

pub returns-in_err-show_frame : goal.returns-in_err-show_frame
returns-in_err-show_frame g c =
    let p = err_from_is_err_and c.from_residual-in_err-show_frame.result c.from_residual-in_err-show_frame.ensures.1 in
    let log = g.S.Site.log in
    let party = leader_party c.args.leader.now in
    let said = spelled (plain c.in_ok-answer.answer) in record {
      told =
          rw (p.1, p.2, c.pass.ensures)
          (logs_unshown party c.args.frames.now c.advance.new.self (log c.args.site.now) (log c.advance.new.site) c.in_ok-advance.ensures.told party said c.in_ok-answer.ensures.answers.shows (log c.show_frame.new.site)
          c.in_err-show_frame.ensures.told);
      fewer = rw p.1 tt;
      count = rw c.pass.ensures c.advance.ensures.count;
      status = rw (p.1, p.2) (inr (inr (inr (inr (inl refl)))));
      faults =
          rw (p.1, p.2)
          (faults_after g.S.Site _ c.args.site.now c.advance.new.site c.show_frame.new.site (heard_well _ _ _ c.in_ok-advance.ensures.counted) c.advance.ensures.talks.calls.none_fell
          (showing_faults g.S.Site c.show_frame.result c.advance.new.site c.show_frame.new.site c.in_err-show_frame.ensures.failed c.show_frame.ensures.counted));
      talks =
          talks_on g.S.Site (Advances c.args.frames.now c.advance.new.self) (ShowsFront said) c.args.site.now c.advance.new.site c.show_frame.new.site
          (talks_weaker g.S.Site (Listens c.args.frames.now) Anything c.args.site.now c.advance.new.site (λ x l. tt) c.advance.ensures.talks) c.in_ok-advance.ensures.told c.show_frame.ensures.talks;
    }

pub returns : goal.returns
returns g c =
    let log = g.S.Site.log in
    let party = leader_party c.args.leader.now in
    let said = spelled (plain c.in_ok-answer.answer) in record {
      told =
          rw c.pass.ensures
          (logs_answered party c.args.frames.now c.advance.new.self (log c.args.site.now) (log c.advance.new.site) c.in_ok-advance.ensures.told party said c.in_ok-answer.ensures.answers.shows (log c.show_frame.new.site)
          c.in_ok-show_frame.ensures.told);
      fewer = rw c.pass.ensures (omega (arith, c.advance.ensures.left, c.in_ok-answer.ensures.answers.shorter));
      count = rw c.pass.ensures c.advance.ensures.count;
      status = tt;
      faults =
          no_faults_yet g.S.Site _ c.args.site.now c.show_frame.new.site
          (no_fault_then _ _ _ (heard_well _ _ _ c.in_ok-advance.ensures.counted) (all_shown _ _ c.in_ok-show_frame.ensures.counted));
      talks =
          talks_on g.S.Site (Advances c.args.frames.now c.advance.new.self) (ShowsFront said) c.args.site.now c.advance.new.site c.show_frame.new.site
          (talks_weaker g.S.Site (Listens c.args.frames.now) Anything c.args.site.now c.advance.new.site (λ x l. tt) c.advance.ensures.talks) c.in_ok-advance.ensures.told c.show_frame.ensures.talks;
    }
