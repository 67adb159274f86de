use Rattle.std.proofs.Common.{◌∙◌, ⊎_elim, Some, inr, refl, subst, sym}
use Rattle.ox_outside.specs.Log.{Grows}
use Rattle.ox_outside.specs.Runs.{LeavesOnly}
use Rattle.ox_model.specs.Stack.{Stack}
use Rattle.ox_files.specs.Stands.{stands}
use Rattle.ox_desk.specs.Servers.{server_on}
use Rattle.ox_app.specs.Turns.{StandFor}
use Rattle.ox_app.specs.Serve.{LeavesServing, RunsServer}
use Rattle.ox_app.specs.declared.status.Status.TheVariants as ends
use Rattle.ox_app.proofs.Images.{looked_then_talked, memory_opens, only_looked, same_stack, says_nothing}
use Rattle.ox_app.proofs.Serving.{memory_untold, opened_then_served, runs_from, runs_none, unopened_unserved, unserved, unserved_as}
use Rattle.ox_outside.proofs.Calls.{calls_then, looks_none, no_call}
use Rattle.ox_outside.proofs.Counts.{no_fault_yet, stops_after, stops_at_none, then_rose}
use Rattle.ox_app.proofs.Opening.{no_misfit_stands, only_unopened, unopened_disk, unopened_says, unopened_serve}
use Rattle.ox_app.proofs.Stacks.{any_stack}
use Rattle.ox_app.proofs.Statuses.{ends_apart}
use Rattle.ox_app.proofs.Stops.{opened_well, unopened_stops}
use Rattle.ox_app.proofs.serve.serve.Goals as goal

pub returns-in_default : goal.returns-in_default
returns-in_default g c = record {
  serves = λ told stack stood. (memory_opens, runs_none server_on stack c.args.turns ends.Memory _ _ (g.S.Site.log c.args.site.now) (g.S.Site.log c.args.site.now) c.requires.turns.some memory_untold refl);
  survives = λ told stack stood. unserved g.S.Site server_on stack StandFor g.met.S.Site.only_now g.met.S.Site.logs_now c.args.site.now;
  logged = λ isnt. record {
    stack = any_stack;
    serves = runs_none server_on any_stack c.args.turns ends.Memory _ _ (g.S.Site.log c.args.site.now) (g.S.Site.log c.args.site.now) c.requires.turns.some memory_untold refl;
  };
  unopened = λ told misfit stood. inr (inr refl);
  unsaid = λ told misfit stood isnt. refl;
  looks = λ told misfit stood. only_looked g.S.Site c.args.site.now c.args.site.now (looks_none g.S.Site g.met.S.Site.only_now c.args.site.now);
  no_store = λ is. absurd (memory_opens is);
  not_store = λ is. absurd (memory_opens is);
  memory = λ is. refl;
  status = inr (inr (inr (inr (inr refl))));
  disk_fault = λ is. absurd (ends_apart ends.Memory ends.DiskFault refl is);
  door_fault = λ is. absurd (ends_apart ends.Memory ends.DoorFault refl is);
  show_fault = λ is. absurd (ends_apart ends.Memory ends.ShowFault refl is);
  stops = stops_at_none _ _ _ _ _ (no_fault_yet (g.S.Site.counts c.args.site.now));
  calls = no_call g.S.Site c.args.site.now;
}

pub returns-in-Ok-open : goal.returns-in-Ok-open
returns-in-Ok-open g c = record {
  serves = λ told stack stood.
      let log = g.S.Site.log in
      let counts = g.S.Site.counts in
      let looks = c.open.ensures.looks in
      let same = same_stack (stands (g.S.Site.seen c.args.site.now)) c.in-Ok-open.store.stack stack (c.in-Ok-open.ensures.stands told) stood in (
        c.serve_by.ensures.opened,
        subst (λ (s : Stack). Grows (RunsServer server_on s c.args.turns c.serve_by.result (counts c.args.site.now) (counts c.serve_by.new.site)) (log c.args.site.now) (log c.serve_by.new.site)) same
            (runs_from server_on c.in-Ok-open.store.stack c.args.turns c.serve_by.result (counts c.args.site.now) (counts c.open.new.site) (counts c.serve_by.new.site) (log c.args.site.now) (log c.open.new.site) (log c.serve_by.new.site)
            looks.calls.none_fell looks.nothing.as_logged c.serve_by.ensures.serves),
      );
  survives = λ told stack stood.
      let looks = c.open.ensures.looks in
      let same = same_stack (stands (g.S.Site.seen c.args.site.now)) c.in-Ok-open.store.stack stack (c.in-Ok-open.ensures.stands told) stood in
      subst (λ (s : Stack). LeavesOnly g.S.Site c.args.site.now c.serve_by.new.site (λ r. Grows (LeavesServing g.S.Site.may_leave c.args.site.now server_on s StandFor r.files) (g.S.Site.log c.args.site.now) (Some r.log))) same
      (opened_then_served g.S.Site server_on c.in-Ok-open.store.stack StandFor g.met.S.Site.logs_now c.args.site.now c.open.new.site c.serve_by.new.site looks (c.serve_by.ensures.survives (looks.calls.as_told ∙ told)));
  logged = λ isnt.
      let log = g.S.Site.log in
      let counts = g.S.Site.counts in
      let looks = c.open.ensures.looks in record {
        stack = c.in-Ok-open.store.stack;
        serves = runs_from server_on c.in-Ok-open.store.stack c.args.turns c.serve_by.result (counts c.args.site.now) (counts c.open.new.site) (counts c.serve_by.new.site) (log c.args.site.now) (log c.open.new.site) (log c.serve_by.new.site)
            looks.calls.none_fell looks.nothing.as_logged c.serve_by.ensures.serves;
      };
  unopened = λ told misfit stood. no_misfit_stands (stands (g.S.Site.seen c.args.site.now)) c.in-Ok-open.store.stack misfit (c.in-Ok-open.ensures.stands told) stood;
  unsaid = λ told misfit stood isnt. no_misfit_stands (stands (g.S.Site.seen c.args.site.now)) c.in-Ok-open.store.stack misfit (c.in-Ok-open.ensures.stands told) stood;
  looks = λ told misfit stood. no_misfit_stands (stands (g.S.Site.seen c.args.site.now)) c.in-Ok-open.store.stack misfit (c.in-Ok-open.ensures.stands told) stood;
  no_store = λ is. absurd (c.serve_by.ensures.opened is);
  not_store = λ is. absurd (c.serve_by.ensures.opened is);
  memory = λ is. c.serve_by.ensures.memory is ∙ c.open.ensures.looks.nothing.as_logged;
  status = c.serve_by.ensures.status;
  disk_fault = λ is.
      let counts = g.S.Site.counts in
      then_rose ((counts c.args.site.now).disk) ((counts c.open.new.site).disk) ((counts c.serve_by.new.site).disk) (c.open.ensures.looks.calls.none_fell.disk) (c.serve_by.ensures.disk_fault is);
  door_fault = λ is.
      let counts = g.S.Site.counts in
      then_rose ((counts c.args.site.now).door) ((counts c.open.new.site).door) ((counts c.serve_by.new.site).door) (c.open.ensures.looks.calls.none_fell.door) (c.serve_by.ensures.door_fault is);
  show_fault = λ is.
      let counts = g.S.Site.counts in
      then_rose ((counts c.args.site.now).show 0) ((counts c.open.new.site).show 0) ((counts c.serve_by.new.site).show 0) (c.open.ensures.looks.calls.none_fell.show 0) (c.serve_by.ensures.show_fault is);
  stops = stops_after _ _ _ _ _ _ (opened_well c.in-Ok-open.store _ _ c.in-Ok-open.ensures.counted) c.serve_by.ensures.stops;
  calls = calls_then g.S.Site c.args.site.now c.open.new.site c.serve_by.new.site c.open.ensures.looks.calls c.serve_by.ensures.calls;
}

pub returns-in-Err : goal.returns-in-Err
returns-in-Err g c = record {
  serves = λ told stack stood.
      let how = unserved_as g.S.Site (stands (g.S.Site.seen c.args.site.now)) stack c.in-Err.fault c.explain.result c.open.new.site c.explain.new.site stood (c.in-Err.ensures.not_store told) c.explain.ensures.says in
      (how.opened, runs_none server_on stack c.args.turns c.explain.result _ _ (g.S.Site.log c.args.site.now) (g.S.Site.log c.explain.new.site) c.requires.turns.some how.untold (how.logged ∙ c.open.ensures.looks.nothing.as_logged));
  survives = λ told stack stood. unopened_unserved g.S.Site server_on stack StandFor g.met.S.Site.logs_now stack c.in-Err.fault c.args.site.now c.open.new.site c.explain.new.site stood (c.in-Err.ensures.not_store told) c.open.ensures.looks c.explain.ensures.talks;
  logged = λ isnt.
      let only = only_unopened c.explain.result c.explain.ensures.status in record {
        stack = any_stack;
        serves = runs_none server_on any_stack c.args.turns c.explain.result _ _ (g.S.Site.log c.args.site.now) (g.S.Site.log c.explain.new.site) c.requires.turns.some (⊎_elim only.done only.show)
            (says_nothing g.S.Site c.in-Err.fault c.explain.result c.open.new.site c.explain.new.site c.explain.ensures.says isnt ∙ c.open.ensures.looks.nothing.as_logged);
      };
  unopened = λ told misfit stood. c.explain.ensures.status;
  unsaid = λ told misfit stood isnt. says_nothing g.S.Site c.in-Err.fault c.explain.result c.open.new.site c.explain.new.site c.explain.ensures.says isnt ∙ c.open.ensures.looks.nothing.as_logged;
  looks = λ told misfit stood. looked_then_talked g.S.Site _ c.args.site.now c.open.new.site c.explain.new.site c.open.ensures.looks c.explain.ensures.talks;
  no_store = λ is. looked_then_talked g.S.Site _ c.args.site.now c.open.new.site c.explain.new.site c.open.ensures.looks c.explain.ensures.talks;
  not_store = λ is. unopened_says g.S.Site c.in-Err.fault c.explain.result c.args.site.now c.open.new.site c.explain.new.site c.open.ensures.looks c.in-Err.ensures.not_store c.explain.ensures.says is;
  memory = λ is. says_nothing g.S.Site c.in-Err.fault c.explain.result c.open.new.site c.explain.new.site c.explain.ensures.says (λ e. memory_opens (sym is ∙ e)) ∙ c.open.ensures.looks.nothing.as_logged;
  status = unopened_serve c.explain.result c.explain.ensures.status;
  disk_fault = λ is. unopened_disk g.S.Site c.in-Err.fault c.explain.result c.args.site.now c.open.new.site c.explain.new.site c.explain.ensures.talks.calls c.in-Err.ensures.failed c.explain.ensures.says is;
  door_fault = λ is. absurd ((only_unopened c.explain.result c.explain.ensures.status).door is);
  show_fault = λ is. absurd ((only_unopened c.explain.result c.explain.ensures.status).show is);
  stops = unopened_stops g.S.Site c.in-Err.fault c.explain.result c.args.site.now c.open.new.site c.explain.new.site c.explain.ensures.says c.in-Err.ensures.counted c.explain.ensures.counted;
  calls = calls_then g.S.Site c.args.site.now c.open.new.site c.explain.new.site c.open.ensures.looks.calls c.explain.ensures.talks.calls;
}
