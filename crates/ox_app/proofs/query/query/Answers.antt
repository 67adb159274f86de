use Rattle.std.proofs.Common.{◌≡◌, ◌∙◌, ℕ, List, ap, inl, inr, refl, subst}
use Rattle.ox_app.specs.declared.status.Status.TheVariants.{DiskFault, Done, Memory, ShowFault}
use Rattle.ox_outside.specs.Log.{Grows}
use Rattle.ox_files.specs.Stands.{stands}
use Rattle.ox_app.proofs.Images.{done_opens, looked_then_talked, only_looked, memory_opens, memory_undone, reply_front, reply_none, reply_whole, same_stack, says_nothing, show_opens, show_undone}
use Rattle.ox_app.specs.Query.{query_body}
use Rattle.ox_app.specs.Show.{ShowsReply}
use Rattle.ox_app.proofs.Statuses.{ends_apart}
use Rattle.ox_app.proofs.Stops.{all_shown, opened_well, told_stops, unopened_stops}
use Rattle.ox_outside.proofs.Calls.{calls_then}
use Rattle.ox_outside.proofs.Counts.{no_fault_then, stops_as, stops_at_none, then_rose}
use Rattle.ox_app.proofs.Opening.{no_misfit_stands, only_unopened, unopened_disk, unopened_query, unopened_says, unopened_shows}
use Rattle.ox_app.proofs.query.query.Goals as goal

pub returns-in-Ok-show_all : goal.returns-in-Ok-show_all
returns-in-Ok-show_all g c = record {
  shows = λ told stack stood.
      let same = same_stack (stands (g.S.Site.seen c.args.site.now)) c.in-Ok.store.stack stack (c.in-Ok.ensures.stands told) stood in
      let bytes = c.as_slice.ensures ∙ c.in-Ok-body_of.ensures ∙ ap (query_body c.args.path.now) same in (
        done_opens,
        subst (λ (l : List ℕ). Grows (ShowsReply l Done) (g.S.Site.log c.args.site.now) (g.S.Site.log c.show_all.new.site)) bytes
            (reply_whole _ (g.S.Site.log c.args.site.now) (g.S.Site.log c.open.new.site) (g.S.Site.log c.show_all.new.site) c.open.ensures.looks.nothing.as_logged c.in-Ok-show_all.ensures.told),
      );
  unopened = λ told misfit stood. no_misfit_stands (stands (g.S.Site.seen c.args.site.now)) c.in-Ok.store.stack misfit (c.in-Ok.ensures.stands told) stood;
  unsaid = λ told misfit stood isnt. no_misfit_stands (stands (g.S.Site.seen c.args.site.now)) c.in-Ok.store.stack misfit (c.in-Ok.ensures.stands told) stood;
  not_store = λ is. absurd (done_opens is);
  looks = looked_then_talked g.S.Site _ c.args.site.now c.open.new.site c.show_all.new.site c.open.ensures.looks c.show_all.ensures.talks;
  status = inl refl;
  show_fault = λ is. absurd (ends_apart Done ShowFault refl is);
  disk_fault = λ is. absurd (ends_apart Done DiskFault refl is);
  stops = stops_at_none _ _ _ _ _ (no_fault_then _ _ _ (opened_well c.in-Ok.store _ _ c.in-Ok.ensures.counted) (all_shown _ _ c.in-Ok-show_all.ensures.counted));
  calls = calls_then g.S.Site c.args.site.now c.open.new.site c.show_all.new.site c.open.ensures.looks.calls c.show_all.ensures.talks.calls;
}

pub returns-in-Ok-body_of : goal.returns-in-Ok-body_of
returns-in-Ok-body_of g c = record {
  shows = λ told stack stood.
      let same = same_stack (stands (g.S.Site.seen c.args.site.now)) c.in-Ok.store.stack stack (c.in-Ok.ensures.stands told) stood in
      let bytes = c.as_slice.ensures ∙ c.in-Ok-body_of.ensures ∙ ap (query_body c.args.path.now) same in (
        show_opens,
        subst (λ (l : List ℕ). Grows (ShowsReply l ShowFault) (g.S.Site.log c.args.site.now) (g.S.Site.log c.show_all.new.site)) bytes
            (reply_front _ ShowFault (g.S.Site.log c.args.site.now) (g.S.Site.log c.open.new.site) (g.S.Site.log c.show_all.new.site) show_undone c.open.ensures.looks.nothing.as_logged c.in-Err-show_all.ensures.told),
      );
  unopened = λ told misfit stood. no_misfit_stands (stands (g.S.Site.seen c.args.site.now)) c.in-Ok.store.stack misfit (c.in-Ok.ensures.stands told) stood;
  unsaid = λ told misfit stood isnt. no_misfit_stands (stands (g.S.Site.seen c.args.site.now)) c.in-Ok.store.stack misfit (c.in-Ok.ensures.stands told) stood;
  not_store = λ is. absurd (show_opens is);
  looks = looked_then_talked g.S.Site _ c.args.site.now c.open.new.site c.show_all.new.site c.open.ensures.looks c.show_all.ensures.talks;
  status = inr (inr (inr (inl refl)));
  show_fault = λ is.
      let counts = g.S.Site.counts in
      then_rose ((counts c.args.site.now).show 0) ((counts c.open.new.site).show 0) ((counts c.show_all.new.site).show 0) (c.open.ensures.looks.calls.none_fell.show 0) c.in-Err-show_all.ensures.failed;
  disk_fault = λ is. absurd (ends_apart ShowFault DiskFault refl is);
  stops =
      told_stops ShowFault _ _ _ (opened_well c.in-Ok.store _ _ c.in-Ok.ensures.counted)
      (stops_as ⊥ ⊥ _ ⊥ ⊥ (ShowFault ≡ ShowFault) _ _ (λ no. no) (λ no. no) (λ failed. refl) c.in-Err-show_all.ensures.counted);
  calls = calls_then g.S.Site c.args.site.now c.open.new.site c.show_all.new.site c.open.ensures.looks.calls c.show_all.ensures.talks.calls;
}

pub returns-in-Ok : goal.returns-in-Ok
returns-in-Ok g c = record {
  shows = λ told stack stood. (
    memory_opens,
    reply_none _ Memory (g.S.Site.log c.args.site.now) (g.S.Site.log c.open.new.site) memory_undone c.open.ensures.looks.nothing.as_logged,
  );
  unopened = λ told misfit stood. no_misfit_stands (stands (g.S.Site.seen c.args.site.now)) c.in-Ok.store.stack misfit (c.in-Ok.ensures.stands told) stood;
  unsaid = λ told misfit stood isnt. no_misfit_stands (stands (g.S.Site.seen c.args.site.now)) c.in-Ok.store.stack misfit (c.in-Ok.ensures.stands told) stood;
  not_store = λ is. absurd (memory_opens is);
  looks = only_looked g.S.Site c.args.site.now c.open.new.site c.open.ensures.looks;
  status = inr (inr (inr (inr refl)));
  show_fault = λ is. absurd (ends_apart Memory ShowFault refl is);
  disk_fault = λ is. absurd (ends_apart Memory DiskFault refl is);
  stops = stops_at_none _ _ _ _ _ (opened_well c.in-Ok.store _ _ c.in-Ok.ensures.counted);
  calls = c.open.ensures.looks.calls;
}

pub returns : goal.returns
returns g c = record {
  shows = λ told stack stood. unopened_shows g.S.Site _ stack c.in-Err.fault c.explain.result c.args.site.now c.open.new.site c.explain.new.site stood (c.in-Err.ensures.not_store told) c.open.ensures.looks c.explain.ensures.says;
  unopened = λ told misfit stood. c.explain.ensures.status;
  unsaid = λ told misfit stood isnt. says_nothing g.S.Site c.in-Err.fault c.explain.result c.open.new.site c.explain.new.site c.explain.ensures.says isnt ∙ c.open.ensures.looks.nothing.as_logged;
  not_store = λ is. unopened_says g.S.Site c.in-Err.fault c.explain.result c.args.site.now c.open.new.site c.explain.new.site c.open.ensures.looks c.in-Err.ensures.not_store c.explain.ensures.says is;
  looks = looked_then_talked g.S.Site _ c.args.site.now c.open.new.site c.explain.new.site c.open.ensures.looks c.explain.ensures.talks;
  status = unopened_query c.explain.result c.explain.ensures.status;
  show_fault = λ is. absurd ((only_unopened c.explain.result c.explain.ensures.status).show is);
  disk_fault = λ is. unopened_disk g.S.Site c.in-Err.fault c.explain.result c.args.site.now c.open.new.site c.explain.new.site c.explain.ensures.talks.calls c.in-Err.ensures.failed c.explain.ensures.says is;
  stops = unopened_stops g.S.Site c.in-Err.fault c.explain.result c.args.site.now c.open.new.site c.explain.new.site c.explain.ensures.says c.in-Err.ensures.counted c.explain.ensures.counted;
  calls = calls_then g.S.Site c.args.site.now c.open.new.site c.explain.new.site c.open.ensures.looks.calls c.explain.ensures.talks.calls;
}
