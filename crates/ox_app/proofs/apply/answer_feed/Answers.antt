use Rattle.std.proofs.Common.{◌∙◌, ap, arith, refl, subst, sym}
use Rattle.std.specs.Prelude.{Err}
use Rattle.std.proofs.lemmas.Result.{err_from_is_err_and}
use Rattle.ox_outside.specs.Log.{Grows}
use Rattle.ox_feed.specs.Feed.{Feed, bytes_left}
use Rattle.ox_app.proofs.FeedAnswers.{carried_none, grows_broken, grows_carried}
use Rattle.ox_app.proofs.Crashes.{grows_owing_store, grows_stopped_store, grows_stops, same_stop, grows_whole_store, holds_on, stands_on, survived_line, survived_none, survived_shown}
use Rattle.ox_app.specs.declared.stop.Stop.TheVariants as stops
use Rattle.ox_app.proofs.FeedState.{HasAnswered}
use Rattle.ox_outside.proofs.Calls.{calls_then, no_call}
use Rattle.ox_outside.proofs.Counts.{no_fault_then, no_fault_yet, stops_at_none, then_rose}
use Rattle.ox_gated.specs.declared.fault.Halt.TheVariants as halts
use Rattle.ox_app.proofs.Stops.{all_shown, part_stops, part_went, show_stops, stopped_as, stops_apart, unstopped}
use Rattle.ox_app.proofs.apply.answer_feed.Goals as goal

pub loop-lines-init : goal.loop-lines-init
loop-lines-init g c =
    let first = c.args.store.stack in
    let log = g.S.Site.log c.args.site.now in (
      subst (λ (l : Feed). Grows (HasAnswered first l first) log log) (sym c.new-lines.ensures) (carried_none first log),
      no_call g.S.Site c.args.site.now,
      c.requires.holds,
      λ told stood. stood,
      λ told stood. survived_none g.S.Site first g.met.S.Site.only_now g.met.S.Site.logs_now c.args.site.now (c.requires.holds told).settled stood,
      omega (arith, c.requires.fresh, ap bytes_left c.new-lines.ensures),
      no_fault_yet (g.S.Site.counts c.args.site.now),
    )

pub returns-in_err-carried : goal.returns-in_err-carried
returns-in_err-carried g c = record {
  told =
      let p = err_from_is_err_and c.from_residual.result c.from_residual.ensures.1 in
      rw (p.1, p.2)
      (grows_stopped_store c.args.store.stack c.loop-lines.lines c.next_carried.new.lines c.loop-lines.store.stack c.in_err-carried.field-0.0
      (g.S.Site.log c.args.site.now) (g.S.Site.log c.loop-lines.site) (g.S.Site.log c.next_carried.new.site)
      c.next_carried.ensures.count (λ e. c.in_err-carried.ensures.too_much (ap Err e))
      c.loop-lines.invariant.0 c.in_err-carried.ensures.told);
  survives = λ told stood.
      let kept = c.loop-lines.invariant in
      survived_line g.S.Site c.args.store.stack c.loop-lines.lines c.next_carried.new.lines c.loop-lines.store.stack
      c.args.site.now c.loop-lines.site c.next_carried.new.site (kept.4 told stood) kept.0 (c.next_carried.ensures.during (kept.1.as_told ∙ told) (kept.3 told stood));
  out_of_memory = λ told stood is.
      let p = err_from_is_err_and c.from_residual.result c.from_residual.ensures.1 in
      let kept = c.loop-lines.invariant in
      grows_stops c.args.store.stack c.loop-lines.lines c.next_carried.new.lines c.loop-lines.store.stack c.in_err-carried.field-0.0
      (g.S.Site.seen c.next_carried.new.site)
      (g.S.Site.log c.args.site.now) (g.S.Site.log c.loop-lines.site) (g.S.Site.log c.next_carried.new.site)
      (c.in_err-carried.ensures.out_of_memory (kept.1.as_told ∙ told) (kept.3 told stood) (ap Err (same_stop c.in_err-carried.field-0.0 (stops.Halt halts.Memory) (rw (p.1, p.2) at is))))
      kept.0 c.in_err-carried.ensures.told;
  hear_fault = λ is.
      let p = err_from_is_err_and c.from_residual.result c.from_residual.ensures.1 in
      let counts = g.S.Site.counts in
      then_rose ((counts c.args.site.now).hear 0) ((counts c.loop-lines.site).hear 0) ((counts c.next_carried.new.site).hear 0) (c.loop-lines.invariant.1.none_fell.hear 0)
      (c.in_err-carried.ensures.hear_fault (ap Err (stopped_as c.from_residual.result c.in_err-carried.field-0.0 stops.HearFault (p.1 ∙ ap Err p.2) is)));
  show_fault = λ is.
      let p = err_from_is_err_and c.from_residual.result c.from_residual.ensures.1 in
      absurd (c.in_err-carried.ensures.no_show_fault (ap Err (stopped_as c.from_residual.result c.in_err-carried.field-0.0 stops.ShowFault (p.1 ∙ ap Err p.2) is)));
  disk_fault = λ is.
      let p = err_from_is_err_and c.from_residual.result c.from_residual.ensures.1 in
      let counts = g.S.Site.counts in
      then_rose (counts c.args.site.now).disk (counts c.loop-lines.site).disk (counts c.next_carried.new.site).disk (c.loop-lines.invariant.1.none_fell.disk)
      (c.in_err-carried.ensures.disk_fault (ap Err (stopped_as c.from_residual.result c.in_err-carried.field-0.0 (stops.Halt halts.Disk) (p.1 ∙ ap Err p.2) is)));
  settled = λ told is.
      let p = err_from_is_err_and c.from_residual.result c.from_residual.ensures.1 in
      c.in_err-carried.ensures.settled (c.loop-lines.invariant.1.as_told ∙ told) (ap Err (same_stop c.in_err-carried.field-0.0 (stops.Halt halts.Memory) (rw (p.1, p.2) at is)));
  counted =
      let p = err_from_is_err_and c.from_residual.result c.from_residual.ensures.1 in
      part_stops c.from_residual.result c.in_err-carried.field-0.0 _ _ _ (p.1 ∙ ap Err p.2) c.loop-lines.invariant.6 c.in_err-carried.ensures.counted;
  calls = calls_then g.S.Site c.args.site.now c.loop-lines.site c.next_carried.new.site c.loop-lines.invariant.1 c.next_carried.ensures.calls;
}

pub returns-in_err-show_all : goal.returns-in_err-show_all
returns-in_err-show_all g c = record {
  told =
      let p = err_from_is_err_and c.from_residual-in_err-show_all.result c.from_residual-in_err-show_all.ensures.1 in
      let first = c.args.store.stack in
      let heard = rw c.in-Some.is at c.in_ok-carried.ensures.told in
      let shown = rw c.as_slice.ensures at c.in_err-show_all.ensures.told in
      rw (p.1, p.2)
      (grows_broken first c.in-Some.carried.answer c.next_carried.new.lines c.in-Some.carried.store.stack
      (g.S.Site.log c.args.site.now) (g.S.Site.log c.next_carried.new.site) (g.S.Site.log c.show_all.new.site)
      c.next_carried.ensures.count
      (grows_owing_store first c.in-Some.carried c.loop-lines.lines c.next_carried.new.lines c.loop-lines.store.stack
      (g.S.Site.log c.args.site.now) (g.S.Site.log c.loop-lines.site) (g.S.Site.log c.next_carried.new.site) c.loop-lines.invariant.0 heard)
      shown);
  survives = λ told stood.
      let kept = c.loop-lines.invariant in
      let first = c.args.store.stack in
      let told_mid = kept.1.as_told ∙ told in
      let heard = rw c.in-Some.is at c.in_ok-carried.ensures.told in
      let talks = rw c.as_slice.ensures at c.show_all.ensures.talks in
      let holds = rw c.in-Some.is at c.in_ok-carried.ensures.holds told_mid in
      let stands = rw c.in-Some.is at c.in_ok-carried.ensures.stands told_mid (kept.3 told stood) in
      survived_shown g.S.Site first c.in-Some.carried.answer c.next_carried.new.lines c.in-Some.carried.store.stack
      c.args.site.now c.next_carried.new.site c.show_all.new.site
      (survived_line g.S.Site first c.loop-lines.lines c.next_carried.new.lines c.loop-lines.store.stack
      c.args.site.now c.loop-lines.site c.next_carried.new.site (kept.4 told stood) kept.0 (c.next_carried.ensures.during told_mid (kept.3 told stood)))
      (grows_owing_store first c.in-Some.carried c.loop-lines.lines c.next_carried.new.lines c.loop-lines.store.stack
      (g.S.Site.log c.args.site.now) (g.S.Site.log c.loop-lines.site) (g.S.Site.log c.next_carried.new.site) kept.0 heard)
      holds.settled stands talks;
  out_of_memory = λ told stood is.
      let p = err_from_is_err_and c.from_residual-in_err-show_all.result c.from_residual-in_err-show_all.ensures.1 in
      absurd (stops_apart stops.ShowFault (stops.Halt halts.Memory) refl (stopped_as c.from_residual-in_err-show_all.result stops.ShowFault (stops.Halt halts.Memory) (p.1 ∙ ap Err p.2) is));
  hear_fault = λ is.
      let p = err_from_is_err_and c.from_residual-in_err-show_all.result c.from_residual-in_err-show_all.ensures.1 in
      absurd (stops_apart stops.ShowFault stops.HearFault refl (stopped_as c.from_residual-in_err-show_all.result stops.ShowFault stops.HearFault (p.1 ∙ ap Err p.2) is));
  show_fault = λ is.
      let counts = g.S.Site.counts in
      let so_far = calls_then g.S.Site c.args.site.now c.loop-lines.site c.next_carried.new.site c.loop-lines.invariant.1 c.next_carried.ensures.calls in
      then_rose ((counts c.args.site.now).show 0) ((counts c.next_carried.new.site).show 0) ((counts c.show_all.new.site).show 0)
      (so_far.none_fell.show 0) c.in_err-show_all.ensures.failed;
  disk_fault = λ is.
      let p = err_from_is_err_and c.from_residual-in_err-show_all.result c.from_residual-in_err-show_all.ensures.1 in
      absurd (stops_apart stops.ShowFault (stops.Halt halts.Disk) refl (stopped_as c.from_residual-in_err-show_all.result stops.ShowFault (stops.Halt halts.Disk) (p.1 ∙ ap Err p.2) is));
  settled = λ told is.
      let p = err_from_is_err_and c.from_residual-in_err-show_all.result c.from_residual-in_err-show_all.ensures.1 in
      absurd (stops_apart stops.ShowFault (stops.Halt halts.Memory) refl (stopped_as c.from_residual-in_err-show_all.result stops.ShowFault (stops.Halt halts.Memory) (p.1 ∙ ap Err p.2) is));
  counted =
      let p = err_from_is_err_and c.from_residual-in_err-show_all.result c.from_residual-in_err-show_all.ensures.1 in
      show_stops c.show_all.result c.from_residual-in_err-show_all.result _ _ _ (p.1 ∙ ap Err p.2)
      (no_fault_then _ _ _ c.loop-lines.invariant.6 (part_went _ _ _ c.in_ok-carried.ensures.counted)) c.show_all.ensures.counted;
  calls =
      calls_then g.S.Site c.args.site.now c.next_carried.new.site c.show_all.new.site
      (calls_then g.S.Site c.args.site.now c.loop-lines.site c.next_carried.new.site c.loop-lines.invariant.1 c.next_carried.ensures.calls)
      (rw c.as_slice.ensures at c.show_all.ensures.talks).calls;
}

pub loop-lines-preserved : goal.loop-lines-preserved
loop-lines-preserved g c =
    let kept = c.loop-lines.invariant in
    let first = c.args.store.stack in
    let heard = rw c.in-Some.is at c.in_ok-carried.ensures.told in
    let shown = rw c.as_slice.ensures at c.in_ok-show_all.ensures.told in
    let talks = rw c.as_slice.ensures at c.show_all.ensures.talks in
    let more = rw c.in-Some.is at c.in_ok-carried.ensures.one_more in
    let fewer = rw c.in-Some.is at c.in_ok-carried.ensures.fewer in
    let owed = grows_owing_store first c.in-Some.carried c.loop-lines.lines c.next_carried.new.lines c.loop-lines.store.stack
    (g.S.Site.log c.args.site.now) (g.S.Site.log c.loop-lines.site) (g.S.Site.log c.next_carried.new.site) kept.0 heard in (
      grows_carried first c.next_carried.new.lines c.in-Some.carried.store.stack c.in-Some.carried.answer
          (g.S.Site.log c.args.site.now) (g.S.Site.log c.next_carried.new.site) (g.S.Site.log c.show_all.new.site) owed shown,
      calls_then g.S.Site c.args.site.now c.next_carried.new.site c.show_all.new.site
          (calls_then g.S.Site c.args.site.now c.loop-lines.site c.next_carried.new.site kept.1 c.next_carried.ensures.calls)
          talks.calls,
      λ told. holds_on g.S.Site c.next_carried.new.site c.show_all.new.site c.in-Some.carried.store.tail talks.files
          (rw c.in-Some.is at c.in_ok-carried.ensures.holds (kept.1.as_told ∙ told)),
      λ told stood. stands_on g.S.Site c.next_carried.new.site c.show_all.new.site c.in-Some.carried.store.stack talks.files
          (rw c.in-Some.is at c.in_ok-carried.ensures.stands (kept.1.as_told ∙ told) (kept.3 told stood)),
      λ told stood.
          let holds = rw c.in-Some.is at c.in_ok-carried.ensures.holds (kept.1.as_told ∙ told) in
          let stands = rw c.in-Some.is at c.in_ok-carried.ensures.stands (kept.1.as_told ∙ told) (kept.3 told stood) in
          survived_shown g.S.Site first c.in-Some.carried.answer c.next_carried.new.lines c.in-Some.carried.store.stack
          c.args.site.now c.next_carried.new.site c.show_all.new.site
          (survived_line g.S.Site first c.loop-lines.lines c.next_carried.new.lines c.loop-lines.store.stack
          c.args.site.now c.loop-lines.site c.next_carried.new.site (kept.4 told stood) kept.0 (c.next_carried.ensures.during (kept.1.as_told ∙ told) (kept.3 told stood)))
          owed holds.settled stands talks,
      omega (arith, more, fewer, kept.5),
      no_fault_then _ _ _ (no_fault_then _ _ _ kept.6 (part_went _ _ _ c.in_ok-carried.ensures.counted)) (all_shown _ _ c.in_ok-show_all.ensures.counted),
    )

pub returns : goal.returns
returns g c = record {
  told =
      let heard = rw c.in_default.is at c.in_ok-carried.ensures.told in
      grows_whole_store c.args.store.stack c.loop-lines.lines c.next_carried.new.lines c.loop-lines.store.stack
      (g.S.Site.log c.args.site.now) (g.S.Site.log c.loop-lines.site) (g.S.Site.log c.next_carried.new.site)
      c.next_carried.ensures.count c.loop-lines.invariant.0 heard;
  survives = λ told stood.
      let kept = c.loop-lines.invariant in
      survived_line g.S.Site c.args.store.stack c.loop-lines.lines c.next_carried.new.lines c.loop-lines.store.stack
      c.args.site.now c.loop-lines.site c.next_carried.new.site (kept.4 told stood) kept.0 (c.next_carried.ensures.during (kept.1.as_told ∙ told) (kept.3 told stood));
  out_of_memory = λ told stood is. absurd (unstopped (stops.Halt halts.Memory) is);
  hear_fault = λ is. absurd (unstopped stops.HearFault is);
  show_fault = λ is. absurd (unstopped stops.ShowFault is);
  disk_fault = λ is. absurd (unstopped (stops.Halt halts.Disk) is);
  settled = λ told is. absurd (unstopped (stops.Halt halts.Memory) is);
  counted = stops_at_none _ _ _ _ _ (no_fault_then _ _ _ c.loop-lines.invariant.6 (part_went _ _ _ c.in_ok-carried.ensures.counted));
  calls = calls_then g.S.Site c.args.site.now c.loop-lines.site c.next_carried.new.site c.loop-lines.invariant.1 c.next_carried.ensures.calls;
}
