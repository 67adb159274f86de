use Rattle.std.proofs.Common.{◌∙◌, Some, ap, subst, sym}
use Rattle.ox_outside.specs.Log.{Grows}
use Rattle.ox_model.specs.Replies.{after_on, replies_on}
use Rattle.ox_model.specs.Stack.{Stack}
use Rattle.ox_files.specs.Stands.{stands}
use Rattle.ox_app.proofs.Images.{grows_from, looked_then_talked, memory_opens, opened_then_followed, same_stack, stopped_by_memory, stops_unopened, unopened_yet, says_nothing}
use Rattle.ox_app.specs.Headline.{Leaves, RunsFeed, StopsBefore}
use Rattle.ox_outside.specs.Runs.{LeavesOnly}
use Rattle.ox_app.proofs.Settled.{settled_talking}
use Rattle.ox_app.proofs.Stacks.{any_stack}
use Rattle.ox_app.proofs.Stops.{not_disk, opened_well, status_stops, unopened_stops}
use Rattle.ox_outside.proofs.Calls.{calls_then}
use Rattle.ox_outside.proofs.Counts.{then_rose}
use Rattle.ox_outside.proofs.Log.{grows_same}
use Rattle.ox_app.proofs.FeedAnswers.{grows_quiet}
use Rattle.ox_app.proofs.Opening.{ends_run, no_misfit_stands, only_unopened, unopened_apply, unopened_disk, unopened_says}
use Rattle.ox_app.proofs.Serving.{unserved_as}
use Rattle.ox_app.specs.Show.{EndsAtFault}
use Rattle.ox_app.specs.Status.{IsApplyStatus, status_of}
use Rattle.ox_app.specs.declared.status.Status.{Status}
use Rattle.ox_app.proofs.apply.apply.Goals as goal

pub returns-in-Ok : goal.returns-in-Ok
returns-in-Ok g c = record {
  feeds = λ told stack stood.
      let same = same_stack (stands (g.S.Site.seen c.args.site.now)) c.in-Ok.store.stack stack (c.in-Ok.ensures.stands told) stood in (
        (λ is. (ends_run c.answer_feed.result).opened (sym c.status.ensures ∙ is)),
        subst (λ (s : Status). Grows (RunsFeed (replies_on stack) s) (g.S.Site.log c.args.site.now) (g.S.Site.log c.answer_feed.new.site)) (sym c.status.ensures)
            (subst (λ (s : Stack). Grows (RunsFeed (replies_on s) (status_of c.answer_feed.result)) (g.S.Site.log c.args.site.now) (g.S.Site.log c.answer_feed.new.site)) same
            (grows_from (RunsFeed (replies_on c.in-Ok.store.stack) (status_of c.answer_feed.result)) (g.S.Site.log c.args.site.now) (g.S.Site.log c.open.new.site) (g.S.Site.log c.answer_feed.new.site) c.open.ensures.looks.nothing.as_logged c.answer_feed.ensures.told)),
      );
  survives = λ told stack stood.
      let same = same_stack (stands (g.S.Site.seen c.args.site.now)) c.in-Ok.store.stack stack (c.in-Ok.ensures.stands told) stood in
      let mid = c.open.ensures.looks.calls.as_told ∙ told in
      let stood_mid = ap stands c.open.ensures.looks.nothing.files ∙ c.in-Ok.ensures.stands told in
      subst (λ (s : Stack). LeavesOnly g.S.Site c.args.site.now c.answer_feed.new.site
      (λ r. Grows (Leaves g.S.Site.may_leave c.args.site.now (replies_on s) (after_on s) r.files) (g.S.Site.log c.args.site.now) (Some r.log))) same
      (opened_then_followed g.S.Site g.met.S.Site.logs_now c.in-Ok.store.stack c.args.site.now c.open.new.site c.answer_feed.new.site c.open.ensures.looks (c.answer_feed.ensures.survives mid stood_mid));
  out_of_memory = λ told stack stood is.
      let same = same_stack (stands (g.S.Site.seen c.args.site.now)) c.in-Ok.store.stack stack (c.in-Ok.ensures.stands told) stood in
      let mid = c.open.ensures.looks.calls.as_told ∙ told in
      let stood_mid = ap stands c.open.ensures.looks.nothing.files ∙ c.in-Ok.ensures.stands told in
      subst (λ (s : Stack). Grows (StopsBefore (replies_on s) (after_on s) (g.S.Site.seen c.answer_feed.new.site)) (g.S.Site.log c.args.site.now) (g.S.Site.log c.answer_feed.new.site)) same
      (grows_from (StopsBefore (replies_on c.in-Ok.store.stack) (after_on c.in-Ok.store.stack) (g.S.Site.seen c.answer_feed.new.site))
      (g.S.Site.log c.args.site.now) (g.S.Site.log c.open.new.site) (g.S.Site.log c.answer_feed.new.site) c.open.ensures.looks.nothing.as_logged
      (c.answer_feed.ensures.out_of_memory mid stood_mid (stopped_by_memory c.answer_feed.result (sym c.status.ensures ∙ is))));
  logged = λ isnt. record {
    stack = c.in-Ok.store.stack;
    feeds = subst (λ (s : Status). Grows (RunsFeed (replies_on c.in-Ok.store.stack) s) (g.S.Site.log c.args.site.now) (g.S.Site.log c.answer_feed.new.site)) (sym c.status.ensures)
        (grows_from (RunsFeed (replies_on c.in-Ok.store.stack) (status_of c.answer_feed.result)) (g.S.Site.log c.args.site.now) (g.S.Site.log c.open.new.site) (g.S.Site.log c.answer_feed.new.site) c.open.ensures.looks.nothing.as_logged c.answer_feed.ensures.told);
  };
  unopened = λ told misfit stood. no_misfit_stands (stands (g.S.Site.seen c.args.site.now)) c.in-Ok.store.stack misfit (c.in-Ok.ensures.stands told) stood;
  unsaid = λ told misfit stood isnt. no_misfit_stands (stands (g.S.Site.seen c.args.site.now)) c.in-Ok.store.stack misfit (c.in-Ok.ensures.stands told) stood;
  looks = λ told misfit stood. no_misfit_stands (stands (g.S.Site.seen c.args.site.now)) c.in-Ok.store.stack misfit (c.in-Ok.ensures.stands told) stood;
  no_store = λ is. absurd ((ends_run c.answer_feed.result).opened (sym c.status.ensures ∙ is));
  not_store = λ is. absurd ((ends_run c.answer_feed.result).opened (sym c.status.ensures ∙ is));
  status = subst IsApplyStatus (sym c.status.ensures) (ends_run c.answer_feed.result).status;
  hear_fault = λ is.
      let counts = g.S.Site.counts in
      then_rose ((counts c.args.site.now).hear 0) ((counts c.open.new.site).hear 0) ((counts c.answer_feed.new.site).hear 0) (c.open.ensures.looks.calls.none_fell.hear 0) (c.answer_feed.ensures.hear_fault ((ends_run c.answer_feed.result).hear (sym c.status.ensures ∙ is)));
  show_fault = λ is.
      let counts = g.S.Site.counts in
      then_rose ((counts c.args.site.now).show 0) ((counts c.open.new.site).show 0) ((counts c.answer_feed.new.site).show 0) (c.open.ensures.looks.calls.none_fell.show 0) (c.answer_feed.ensures.show_fault ((ends_run c.answer_feed.result).show (sym c.status.ensures ∙ is)));
  disk_fault = λ is.
      let counts = g.S.Site.counts in
      then_rose (counts c.args.site.now).disk (counts c.open.new.site).disk (counts c.answer_feed.new.site).disk (c.open.ensures.looks.calls.none_fell.disk) (c.answer_feed.ensures.disk_fault ((ends_run c.answer_feed.result).disk (sym c.status.ensures ∙ is)));
  settled = λ told is. c.answer_feed.ensures.settled (c.open.ensures.looks.calls.as_told ∙ told) (stopped_by_memory c.answer_feed.result (sym c.status.ensures ∙ is));
  stops =
      subst (λ (s : Status). EndsAtFault s (g.S.Site.counts c.args.site.now) (g.S.Site.counts c.answer_feed.new.site)) (sym c.status.ensures)
      (status_stops c.answer_feed.result _ _ _ (opened_well c.in-Ok.store _ _ c.in-Ok.ensures.counted) c.answer_feed.ensures.counted);
  calls = calls_then g.S.Site c.args.site.now c.open.new.site c.answer_feed.new.site c.open.ensures.looks.calls c.answer_feed.ensures.calls;
}

pub returns-in-Err : goal.returns-in-Err
returns-in-Err g c = record {
  feeds = λ told stack stood.
      let how = unserved_as g.S.Site (stands (g.S.Site.seen c.args.site.now)) stack c.in-Err.fault c.explain.result c.open.new.site c.explain.new.site stood (c.in-Err.ensures.not_store told) c.explain.ensures.says in
      let only = (only_unopened c.explain.result c.explain.ensures.status) in (
        how.opened,
        grows_same (RunsFeed (replies_on stack) c.explain.result) (g.S.Site.log c.args.site.now) (g.S.Site.log c.args.site.now) (g.S.Site.log c.explain.new.site) (grows_quiet stack c.explain.result only.done only.much (g.S.Site.log c.args.site.now)) (how.logged ∙ c.open.ensures.looks.nothing.as_logged),
      );
  survives = λ told stack stood. unopened_yet g.S.Site g.met.S.Site.logs_now stack c.in-Err.fault c.args.site.now c.open.new.site c.explain.new.site stood (c.in-Err.ensures.not_store told) c.open.ensures.looks c.explain.ensures.talks;
  out_of_memory = λ told stack stood is.
      stops_unopened g.S.Site stack c.in-Err.fault c.explain.result c.args.site.now c.open.new.site c.explain.new.site stood
      c.open.ensures.looks c.explain.ensures.says (λ e. memory_opens (sym is ∙ e)) c.explain.ensures.talks;
  logged = λ isnt.
      let only = only_unopened c.explain.result c.explain.ensures.status in
      let log = g.S.Site.log in record {
        stack = any_stack;
        feeds = grows_same (RunsFeed (replies_on any_stack) c.explain.result) (log c.args.site.now) (log c.args.site.now) (log c.explain.new.site) (grows_quiet any_stack c.explain.result only.done only.much (log c.args.site.now))
            (says_nothing g.S.Site c.in-Err.fault c.explain.result c.open.new.site c.explain.new.site c.explain.ensures.says isnt ∙ c.open.ensures.looks.nothing.as_logged);
      };
  unopened = λ told misfit stood. c.explain.ensures.status;
  unsaid = λ told misfit stood isnt. says_nothing g.S.Site c.in-Err.fault c.explain.result c.open.new.site c.explain.new.site c.explain.ensures.says isnt ∙ c.open.ensures.looks.nothing.as_logged;
  looks = λ told misfit stood. looked_then_talked g.S.Site _ c.args.site.now c.open.new.site c.explain.new.site c.open.ensures.looks c.explain.ensures.talks;
  no_store = λ is. looked_then_talked g.S.Site _ c.args.site.now c.open.new.site c.explain.new.site c.open.ensures.looks c.explain.ensures.talks;
  not_store = λ is. unopened_says g.S.Site c.in-Err.fault c.explain.result c.args.site.now c.open.new.site c.explain.new.site c.open.ensures.looks c.in-Err.ensures.not_store c.explain.ensures.says is;
  status = unopened_apply c.explain.result c.explain.ensures.status;
  hear_fault = λ is. absurd ((only_unopened c.explain.result c.explain.ensures.status).hear is);
  show_fault = λ is. absurd ((only_unopened c.explain.result c.explain.ensures.status).show is);
  disk_fault = λ is. unopened_disk g.S.Site c.in-Err.fault c.explain.result c.args.site.now c.open.new.site c.explain.new.site c.explain.ensures.talks.calls c.in-Err.ensures.failed c.explain.ensures.says is;
  settled = λ told is.
      settled_talking g.S.Site c.open.new.site c.explain.new.site c.explain.ensures.talks.files
      (c.in-Err.ensures.settled (not_disk g.S.Site c.in-Err.fault c.explain.result c.open.new.site c.explain.new.site c.explain.ensures.says is));
  stops = unopened_stops g.S.Site c.in-Err.fault c.explain.result c.args.site.now c.open.new.site c.explain.new.site c.explain.ensures.says c.in-Err.ensures.counted c.explain.ensures.counted;
  calls = calls_then g.S.Site c.args.site.now c.open.new.site c.explain.new.site c.open.ensures.looks.calls c.explain.ensures.talks.calls;
}
