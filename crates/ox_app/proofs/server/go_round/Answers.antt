use Rattle.std.proofs.Common.{◌≡◌, ◌∙◌, ap, arith, subst, sym}
use Rattle.std.proofs.lemmas.Result.{err_from_is_err_and}
use Rattle.ox_outside.proofs.Calls.{calls_then}
use Rattle.ox_outside.proofs.Counts.{no_fault_then, stops_after, stops_as, stops_at_none, then_rose, went_on}
use Rattle.std.specs.Prelude.{Err, Result}
use Rattle.ox_links.specs.Turned.{logged_by}
use Rattle.ox_app.specs.Turns.{RunPromises}
use Rattle.ox_app.specs.declared.server.ServeFault.{ServeFault}
use Rattle.ox_app.proofs.TurnAnswers.{http_speaks}
use Rattle.ox_app.proofs.TurnsGoOn.{by_disk, by_door, can_follow, cut_shown, grows_by, has_memory, lasts_more, of_disk, went_all, went_cut, went_fewer, went_more, went_shown}
use Rattle.ox_app.proofs.server.go_round.Goals as goal

pub turn-requires-clause-follows : goal.turn-requires-clause-follows
turn-requires-clause-follows g c =
    let desk = g.D.Desk in
    let kept = c.loop.invariant in
    can_follow desk.server desk.state desk.moved desk.same c.loop.counter (g.S.Site.log c.args.site.now) (g.S.Site.log c.loop.site) _ _
    c.args.desk.now c.loop.desk c.loop.turns kept.2 kept.3

pub returns-in_err-turn : goal.returns-in_err-turn
returns-in_err-turn g c =
    let p = err_from_is_err_and c.from_residual.result c.from_residual.ensures.1 in
    let desk = g.D.Desk in
    let log = g.S.Site.log in
    let counts = g.S.Site.counts in
    let kept = c.loop.invariant in
    let speaks = http_speaks desk.server g.met.D.Desk.http in
    let fault = c.in_err-turn.field-0.0 in
    let turn = c.in_err-turn.ensures in
    let is = sym (p.1 ∙ ap Err p.2) in
    record {
      promises = subst (λ (r : Result Unit ServeFault). RunPromises g.S.Site desk c.args.times r c.args.site.now c.turn.new.site c.args.desk.now c.turn.new.desk) is (record {
        made = tt;
        cut = λ _.
            grows_by _ (log c.args.site.now) (log c.turn.new.site) (λ none. turn.promises.untold (kept.2 none)) (λ past is.
            let went = kept.3 past is in
            went_cut desk.server speaks desk.state desk.moved desk.same past _ c.args.desk.now c.loop.counter c.args.times c.loop.turns _ _ _ c.loop.desk
            c.loop-test.true went (turn.cut (record { log = past; state = desk.state c.args.desk.now }) (logged_by went.turns) went.logged went.follows));
        fewer = λ is.
            grows_by _ (log c.args.site.now) (log c.turn.new.site) (λ none. turn.promises.untold (kept.2 none)) (λ past at.
            went_fewer desk.server speaks desk.state desk.moved desk.same past _ c.args.desk.now c.loop.counter c.args.times c.loop.turns _ _ _ c.loop.desk
            c.loop-test.true (kept.3 past at) (turn.promises.door_logs (by_door fault is)));
        fronts =
            grows_by _ (log c.args.site.now) (log c.turn.new.site) (λ none. turn.promises.untold (kept.2 none)) (λ past is.
            let went = kept.3 past is in
            cut_shown desk.server speaks desk.state desk.moved desk.same past _ c.args.desk.now c.loop.counter c.loop.turns _ _ _ c.loop.desk
            went (turn.cut (record { log = past; state = desk.state c.args.desk.now }) (logged_by went.turns) went.logged went.follows));
        survives = λ told.
            let now = g.met.S.Site.reads_now c.args.site.now told in
            let went = kept.3 now.0 now.1 in
            lasts_more g.S.Site desk.server (desk.state c.args.desk.now) desk.stands c.args.site.now now.0 (logged_by went.turns) c.loop.site c.turn.new.site now.1 went.logged (kept.4 told)
            (turn.promises.survives (record { log = now.0; state = desk.state c.args.desk.now }) (logged_by went.turns) went.logged went.follows (kept.0.as_told ∙ told));
        rests = tt;
        disk_fault = λ is. then_rose (counts c.args.site.now).disk (counts c.loop.site).disk (counts c.turn.new.site).disk kept.0.none_fell.disk (turn.promises.disk_fault (by_disk fault is));
        door_fault = λ is. then_rose (counts c.args.site.now).door (counts c.loop.site).door (counts c.turn.new.site).door kept.0.none_fell.door (turn.promises.door_fault (by_door fault is));
        counted = stops_after _ ⊥ ⊥ (counts c.args.site.now) (counts c.loop.site) (counts c.turn.new.site) kept.1
            (stops_as _ ⊥ ⊥ _ ⊥ ⊥ (counts c.loop.site) (counts c.turn.new.site) (of_disk fault) (λ no. no) (λ no. no) turn.promises.counted);
        calls = calls_then g.S.Site c.args.site.now c.loop.site c.turn.new.site kept.0 turn.promises.calls;
      });
      begun = λ is_memory. has_memory fault (sym (p.1 ∙ ap Err p.2) ∙ is_memory);
    }

pub loop-preserved : goal.loop-preserved
loop-preserved g c =
    let desk = g.D.Desk in
    let kept = c.loop.invariant in
    let turn = c.in_ok-turn.ensures in (
      calls_then g.S.Site c.args.site.now c.loop.site c.turn.new.site kept.0 turn.promises.calls,
      no_fault_then _ _ _ kept.1 (went_on _ ⊥ ⊥ _ _ (λ is. absurd (cc is)) (λ no. no) (λ no. no) turn.promises.counted),
      λ none. turn.promises.untold (kept.2 none),
      λ past is.
          let went = kept.3 past is in
          went_more desk.server (http_speaks desk.server g.met.D.Desk.http) desk.state desk.moved desk.same past (g.S.Site.counts c.args.site.now) c.args.desk.now
          g.S.Site c.loop.site c.turn.new.site c.loop.counter c.loop.turns c.turn.new.self c.loop.desk c.turn.new.desk
          turn.promises.calls.none_fell went (turn.turn (record { log = past; state = desk.state c.args.desk.now }) (logged_by went.turns) went.logged went.follows),
      λ told.
          let now = g.met.S.Site.reads_now c.args.site.now told in
          let went = kept.3 now.0 now.1 in
          lasts_more g.S.Site desk.server (desk.state c.args.desk.now) desk.stands c.args.site.now now.0 (logged_by went.turns) c.loop.site c.turn.new.site now.1 went.logged (kept.4 told)
          (turn.promises.survives (record { log = now.0; state = desk.state c.args.desk.now }) (logged_by went.turns) went.logged went.follows (kept.0.as_told ∙ told)),
      turn.promises.rests,
      omega (arith, turn.promises.asked, kept.6),
    )

pub returns : goal.returns
returns g c =
    let desk = g.D.Desk in
    let log = g.S.Site.log in
    let kept = c.loop.invariant in
    let speaks = http_speaks desk.server g.met.D.Desk.http in
    let all : c.loop.counter ≡ c.args.times = omega (arith, c.loop-test.false, c.loop.auto.counter-end) in
    record {
      promises = record {
        made =
            grows_by _ (log c.args.site.now) (log c.loop.site) kept.2 (λ past is.
            went_all desk.server speaks desk.state desk.moved desk.same past _ c.args.desk.now c.loop.counter c.args.times c.loop.turns _ _ c.loop.desk all (kept.3 past is));
        cut = tt;
        fewer = λ is. cc is;
        fronts =
            grows_by _ (log c.args.site.now) (log c.loop.site) kept.2 (λ past is.
            went_shown desk.server speaks desk.state desk.moved desk.same past _ c.args.desk.now c.loop.counter c.loop.turns _ _ c.loop.desk (kept.3 past is));
        survives = kept.4;
        rests = kept.5;
        disk_fault = λ is. cc is;
        door_fault = λ is. cc is;
        counted = stops_at_none _ ⊥ ⊥ (g.S.Site.counts c.args.site.now) (g.S.Site.counts c.loop.site) kept.1;
        calls = kept.0;
      };
      begun = λ is. cc is;
    }
