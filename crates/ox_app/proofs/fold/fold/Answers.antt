use Rattle.std.proofs.Common.{◌∙◌, ap, refl, subst, sym}
use Rattle.std.specs.Prelude.{Err}
use Rattle.std.proofs.lemmas.Result.{err_from_is_err_and}
use Rattle.ox_outside.specs.Log.{Grows}
use Rattle.ox_feed.specs.Feed.{Feed, new_feed}
use Rattle.ox_model.specs.Machine.{empty_machine, stack_of}
use Rattle.ox_model.specs.Stack.{Stack}
use Rattle.ox_index.specs.Chain.{stack_in}
use Rattle.ox_app.specs.Fold.{Anything, fold_depth}
use Rattle.ox_app.proofs.FeedAnswers.{carried_none, grows_broken, grows_carried, grows_owing, grows_stopped, grows_unheard, grows_whole}
use Rattle.ox_app.proofs.TalksOn.{talks_on}
use Rattle.ox_app.proofs.FeedState.{HasAnswered}
use Rattle.ox_outside.proofs.OnlyTalks.{talks_none}
use Rattle.ox_outside.proofs.Calls.{calls_then}
use Rattle.ox_outside.proofs.Counts.{no_fault_then, no_fault_yet, stops_at_none, then_rose}
use Rattle.ox_gated.specs.declared.fault.Halt.TheVariants as halts
use Rattle.ox_app.specs.declared.stop.Stop.TheVariants as stops
use Rattle.ox_app.proofs.Stops.{all_shown, part_stops, part_went, show_stops, stopped_as, stops_apart, unstopped}
use Rattle.ox_app.proofs.fold.fold.Goals as goal

pub loop-chain-init : goal.loop-chain-init
loop-chain-init g c =
    let first = stack_of (empty_machine c.args.p.now fold_depth) in
    let log = g.S.Site.log c.args.site.now in (
      subst (λ (l : Feed). Grows (HasAnswered first l (stack_in c.in_ok-chain.chain)) log log) (sym c.new-lines.ensures)
          (subst (λ (s : Stack). Grows (HasAnswered first new_feed s) log log) {x = first} (sym {b = first} c.in_ok-chain.ensures) (carried_none first log)),
      talks_none g.S.Site g.met.S.Site.only_now g.met.S.Site.logs_now Anything c.args.site.now tt,
      no_fault_yet (g.S.Site.counts c.args.site.now),
    )

pub returns-in_err-chain : goal.returns-in_err-chain
returns-in_err-chain g c = record {
  told =
      let p = err_from_is_err_and c.from_residual.result c.from_residual.ensures.1 in
      rw (p.1, p.2) (grows_unheard (stack_of (empty_machine c.args.p.now fold_depth)) (g.S.Site.log c.args.site.now));
  hear_fault = λ is.
      let p = err_from_is_err_and c.from_residual.result c.from_residual.ensures.1 in
      absurd (stops_apart (stops.Halt halts.Memory) stops.HearFault refl (stopped_as c.from_residual.result (stops.Halt halts.Memory) stops.HearFault (p.1 ∙ ap Err p.2) is));
  show_fault = λ is.
      let p = err_from_is_err_and c.from_residual.result c.from_residual.ensures.1 in
      absurd (stops_apart (stops.Halt halts.Memory) stops.ShowFault refl (stopped_as c.from_residual.result (stops.Halt halts.Memory) stops.ShowFault (p.1 ∙ ap Err p.2) is));
  no_disk_fault = λ is.
      let p = err_from_is_err_and c.from_residual.result c.from_residual.ensures.1 in
      absurd (stops_apart (stops.Halt halts.Memory) (stops.Halt halts.Disk) refl (stopped_as c.from_residual.result (stops.Halt halts.Memory) (stops.Halt halts.Disk) (p.1 ∙ ap Err p.2) is));
  counted = stops_at_none _ _ _ _ _ (no_fault_yet (g.S.Site.counts c.args.site.now));
  talks = talks_none g.S.Site g.met.S.Site.only_now g.met.S.Site.logs_now Anything c.args.site.now tt;
}

pub returns-in_err-answer : goal.returns-in_err-answer
returns-in_err-answer g c = record {
  told =
      let p = err_from_is_err_and c.from_residual-in_err-answer.result c.from_residual-in_err-answer.ensures.1 in
      rw (p.1, p.2)
      (grows_stopped (stack_of (empty_machine c.args.p.now fold_depth)) c.loop-chain.lines c.next_answer.new.lines (stack_in c.loop-chain.chain) (stack_in c.next_answer.new.chain) c.in_err-answer.field-0.0
      (g.S.Site.log c.args.site.now) (g.S.Site.log c.loop-chain.site) (g.S.Site.log c.next_answer.new.site)
      c.next_answer.ensures.count (λ e. c.in_err-answer.ensures.too_much (ap Err e))
      c.loop-chain.invariant.0 c.in_err-answer.ensures.told);
  hear_fault = λ is.
      let p = err_from_is_err_and c.from_residual-in_err-answer.result c.from_residual-in_err-answer.ensures.1 in
      let counts = g.S.Site.counts in
      then_rose ((counts c.args.site.now).hear 0) ((counts c.loop-chain.site).hear 0) ((counts c.next_answer.new.site).hear 0) (c.loop-chain.invariant.1.calls.none_fell.hear 0)
      (c.in_err-answer.ensures.hear_fault (ap Err (stopped_as c.from_residual-in_err-answer.result c.in_err-answer.field-0.0 stops.HearFault (p.1 ∙ ap Err p.2) is)));
  show_fault = λ is.
      let p = err_from_is_err_and c.from_residual-in_err-answer.result c.from_residual-in_err-answer.ensures.1 in
      absurd (c.in_err-answer.ensures.no_show_fault (ap Err (stopped_as c.from_residual-in_err-answer.result c.in_err-answer.field-0.0 stops.ShowFault (p.1 ∙ ap Err p.2) is)));
  no_disk_fault = λ is.
      let p = err_from_is_err_and c.from_residual-in_err-answer.result c.from_residual-in_err-answer.ensures.1 in
      c.in_err-answer.ensures.no_disk_fault (ap Err (stopped_as c.from_residual-in_err-answer.result c.in_err-answer.field-0.0 (stops.Halt halts.Disk) (p.1 ∙ ap Err p.2) is));
  counted =
      let p = err_from_is_err_and c.from_residual-in_err-answer.result c.from_residual-in_err-answer.ensures.1 in
      part_stops c.from_residual-in_err-answer.result c.in_err-answer.field-0.0 _ _ _ (p.1 ∙ ap Err p.2) c.loop-chain.invariant.2 c.in_err-answer.ensures.counted;
  talks =
      talks_on g.S.Site _ _ c.args.site.now c.loop-chain.site c.next_answer.new.site
      c.loop-chain.invariant.1 c.loop-chain.invariant.0 c.next_answer.ensures.talks;
}

pub returns-in_err-show_all : goal.returns-in_err-show_all
returns-in_err-show_all g c = record {
  told =
      let p = err_from_is_err_and c.from_residual-in_err-show_all.result c.from_residual-in_err-show_all.ensures.1 in
      let heard = rw c.in-Some.is at c.in_ok-answer.ensures.told in
      let shown = rw c.as_slice.ensures at c.in_err-show_all.ensures.told in
      let first = stack_of (empty_machine c.args.p.now fold_depth) in
      rw (p.1, p.2)
      (grows_broken first c.in-Some.answer c.next_answer.new.lines (stack_in c.next_answer.new.chain)
      (g.S.Site.log c.args.site.now) (g.S.Site.log c.next_answer.new.site) (g.S.Site.log c.show_all.new.site)
      c.next_answer.ensures.count
      (grows_owing first c.loop-chain.lines c.next_answer.new.lines (stack_in c.loop-chain.chain) (stack_in c.next_answer.new.chain) c.in-Some.answer
      (g.S.Site.log c.args.site.now) (g.S.Site.log c.loop-chain.site) (g.S.Site.log c.next_answer.new.site) c.loop-chain.invariant.0 heard)
      shown);
  hear_fault = λ is.
      let p = err_from_is_err_and c.from_residual-in_err-show_all.result c.from_residual-in_err-show_all.ensures.1 in
      absurd (stops_apart stops.ShowFault stops.HearFault refl (stopped_as c.from_residual-in_err-show_all.result stops.ShowFault stops.HearFault (p.1 ∙ ap Err p.2) is));
  show_fault = λ is.
      let counts = g.S.Site.counts in
      let so_far = calls_then g.S.Site c.args.site.now c.loop-chain.site c.next_answer.new.site c.loop-chain.invariant.1.calls c.next_answer.ensures.talks.calls in
      then_rose ((counts c.args.site.now).show 0) ((counts c.next_answer.new.site).show 0) ((counts c.show_all.new.site).show 0) (so_far.none_fell.show 0) c.in_err-show_all.ensures.failed;
  no_disk_fault = λ is.
      let p = err_from_is_err_and c.from_residual-in_err-show_all.result c.from_residual-in_err-show_all.ensures.1 in
      absurd (stops_apart stops.ShowFault (stops.Halt halts.Disk) refl (stopped_as c.from_residual-in_err-show_all.result stops.ShowFault (stops.Halt halts.Disk) (p.1 ∙ ap Err p.2) is));
  counted =
      let p = err_from_is_err_and c.from_residual-in_err-show_all.result c.from_residual-in_err-show_all.ensures.1 in
      show_stops c.show_all.result c.from_residual-in_err-show_all.result _ _ _ (p.1 ∙ ap Err p.2)
      (no_fault_then _ _ _ c.loop-chain.invariant.2 (part_went _ _ _ c.in_ok-answer.ensures.counted)) c.show_all.ensures.counted;
  talks =
      let heard = rw c.in-Some.is at c.in_ok-answer.ensures.told in
      talks_on g.S.Site _ _ c.args.site.now c.next_answer.new.site c.show_all.new.site
      (talks_on g.S.Site _ _ c.args.site.now c.loop-chain.site c.next_answer.new.site
      c.loop-chain.invariant.1 c.loop-chain.invariant.0 c.next_answer.ensures.talks)
      (grows_owing (stack_of (empty_machine c.args.p.now fold_depth)) c.loop-chain.lines c.next_answer.new.lines (stack_in c.loop-chain.chain) (stack_in c.next_answer.new.chain) c.in-Some.answer
      (g.S.Site.log c.args.site.now) (g.S.Site.log c.loop-chain.site) (g.S.Site.log c.next_answer.new.site) c.loop-chain.invariant.0 heard)
      c.show_all.ensures.talks;
}

pub loop-chain-preserved : goal.loop-chain-preserved
loop-chain-preserved g c =
    let heard = rw c.in-Some.is at c.in_ok-answer.ensures.told in
    let shown = rw c.as_slice.ensures at c.in_ok-show_all.ensures.told in
    let first = stack_of (empty_machine c.args.p.now fold_depth) in
    let owed = grows_owing first c.loop-chain.lines c.next_answer.new.lines (stack_in c.loop-chain.chain) (stack_in c.next_answer.new.chain) c.in-Some.answer
    (g.S.Site.log c.args.site.now) (g.S.Site.log c.loop-chain.site) (g.S.Site.log c.next_answer.new.site) c.loop-chain.invariant.0 heard in (
      grows_carried first c.next_answer.new.lines (stack_in c.next_answer.new.chain) c.in-Some.answer
          (g.S.Site.log c.args.site.now) (g.S.Site.log c.next_answer.new.site) (g.S.Site.log c.show_all.new.site) owed shown,
      talks_on g.S.Site _ _ c.args.site.now c.next_answer.new.site c.show_all.new.site
          (talks_on g.S.Site _ _ c.args.site.now c.loop-chain.site c.next_answer.new.site
          c.loop-chain.invariant.1 c.loop-chain.invariant.0 c.next_answer.ensures.talks)
          owed c.show_all.ensures.talks,
      no_fault_then _ _ _ (no_fault_then _ _ _ c.loop-chain.invariant.2 (part_went _ _ _ c.in_ok-answer.ensures.counted)) (all_shown _ _ c.in_ok-show_all.ensures.counted),
    )

pub returns : goal.returns
returns g c = record {
  told =
      let heard = rw c.in_default.is at c.in_ok-answer.ensures.told in
      grows_whole (stack_of (empty_machine c.args.p.now fold_depth)) c.loop-chain.lines c.next_answer.new.lines (stack_in c.loop-chain.chain) (stack_in c.next_answer.new.chain)
      (g.S.Site.log c.args.site.now) (g.S.Site.log c.loop-chain.site) (g.S.Site.log c.next_answer.new.site)
      c.next_answer.ensures.count c.loop-chain.invariant.0 heard;
  hear_fault = λ is. absurd (unstopped stops.HearFault is);
  show_fault = λ is. absurd (unstopped stops.ShowFault is);
  no_disk_fault = λ is. absurd (unstopped (stops.Halt halts.Disk) is);
  counted = stops_at_none _ _ _ _ _ (no_fault_then _ _ _ c.loop-chain.invariant.2 (part_went _ _ _ c.in_ok-answer.ensures.counted));
  talks =
      talks_on g.S.Site _ _ c.args.site.now c.loop-chain.site c.next_answer.new.site
      c.loop-chain.invariant.1 c.loop-chain.invariant.0 c.next_answer.ensures.talks;
}
