use Rattle.std.proofs.Common.{◌≡◌, ◌∙◌, ◌⊎◌, ℕ, List, ap, inl, inr, refl, subst, sym}
use Rattle.std.specs.Prelude.{Result, Ok, Err}
use Rattle.ox_outside.specs.Counts.{Counts, IsFailure, NoFault, StopsAtFault}
use Rattle.ox_outside.specs.Log.{Grows}
use Rattle.ox_outside.proofs.Calls.{calls_then}
use Rattle.ox_outside.proofs.Counts.{no_fault_then, stops_after, stops_as, stops_at_none, then_rose, went_on}
use Rattle.ox_desk.specs.Servers.{server_on}
use Rattle.ox_app.specs.Turns.{StandFor}
use Rattle.ox_app.specs.declared.server.ServeFault.{ServeFault}
use Rattle.ox_app.specs.declared.server.ServeFault.TheVariants as serves
use Rattle.ox_app.specs.Serve.{RunsServer}
use Rattle.ox_app.specs.Show.{EndsAtFault, ShowsReply}
use Rattle.ox_app.specs.Status.{IsRefusal, IsServeStatus, fault_status}
use Rattle.ox_app.specs.declared.status.Status.{Status}
use Rattle.ox_app.specs.declared.status.Status.TheVariants as ends
use Rattle.ox_app.proofs.Images.{done_opens, reply_front, reply_whole, show_opens, show_undone}
use Rattle.ox_app.proofs.Serving.{runs_by_fault, runs_told, served_only, served_then_talked}
use Rattle.ox_app.proofs.Statuses.{ends_apart}
use Rattle.ox_app.proofs.Stops.{all_shown}
use Rattle.ox_app.proofs.serve.serve_by.Goals as goal

-- behind turns of which none failed, the line of what was counted isn't shown whole
totals_stop : {T U E : Type 0} (totals : T) (answer : Result U E) (old mid new : Counts)
    → StopsAtFault (◌≡◌ {A = Result T ServeFault} (Ok totals) (Err serves.DiskFault)) ⊥ ⊥ old mid → StopsAtFault ⊥ ⊥ (IsFailure answer) mid new → EndsAtFault ends.ShowFault old new
totals_stop {T} totals answer old mid new served stopped =
    stops_after (ends.ShowFault ≡ ends.DiskFault) (ends.ShowFault ≡ ends.HearFault) ((ends.ShowFault ≡ ends.ShowFault) ⊎ IsRefusal ends.ShowFault) old mid new
    (went_on (◌≡◌ {A = Result T ServeFault} (Ok totals) (Err serves.DiskFault)) ⊥ ⊥ old mid (λ is. cc is) (λ no. no) (λ no. no) served)
    (stops_as ⊥ ⊥ (IsFailure answer) (ends.ShowFault ≡ ends.DiskFault) (ends.ShowFault ≡ ends.HearFault) ((ends.ShowFault ≡ ends.ShowFault) ⊎ IsRefusal ends.ShowFault) mid new
    (λ no. absurd no) (λ no. absurd no) (λ failed. inl refl) stopped)

-- turns that were all made
served_well : {T : Type 0} (totals : T) (old new : Counts) → StopsAtFault (◌≡◌ {A = Result T ServeFault} (Ok totals) (Err serves.DiskFault)) ⊥ ⊥ old new → NoFault old new
served_well {T} totals old new served =
    went_on (◌≡◌ {A = Result T ServeFault} (Ok totals) (Err serves.DiskFault)) ⊥ ⊥ old new (λ is. cc is) (λ no. no) (λ no. no) served

-- what a fault's status says of it
record EndsTurns (fault : ServeFault) : Type 0 where
  status : IsServeStatus (fault_status fault)
  opened : fault_status fault ≡ ends.NotStore → ⊥
  memory : fault_status fault ≡ ends.Memory → fault ≡ serves.Memory
  disk : fault_status fault ≡ ends.DiskFault → fault ≡ serves.DiskFault
  door : fault_status fault ≡ ends.DoorFault → fault ≡ serves.DoorFault
  show : fault_status fault ≡ ends.ShowFault → ⊥

ends_turns : (fault : ServeFault) → EndsTurns fault
ends_turns serves.DiskFault = record { status = inr (inr (inl refl)); opened = λ e. cc e; memory = λ e. cc e; disk = λ e. refl; door = λ e. cc e; show = λ e. cc e }
ends_turns serves.DoorFault = record { status = inr (inr (inr (inr (inl refl)))); opened = λ e. cc e; memory = λ e. cc e; disk = λ e. cc e; door = λ e. refl; show = λ e. cc e }
ends_turns serves.Memory = record { status = inr (inr (inr (inr (inr refl)))); opened = λ e. cc e; memory = λ e. refl; disk = λ e. cc e; door = λ e. cc e; show = λ e. cc e }

fault_stops : {T : Type 0} (fault : ServeFault) (status : Status) (old new : Counts) → status ≡ fault_status fault → StopsAtFault (◌≡◌ {A = Result T ServeFault} (Err fault) (Err serves.DiskFault)) ⊥ ⊥ old new → EndsAtFault status old new
fault_stops {T} fault status old new is stopped =
    stops_as (◌≡◌ {A = Result T ServeFault} (Err fault) (Err serves.DiskFault)) ⊥ ⊥ (status ≡ ends.DiskFault) (status ≡ ends.HearFault) ((status ≡ ends.ShowFault) ⊎ IsRefusal status) old new
    (λ e. let same : fault ≡ serves.DiskFault = cc e in is ∙ ap fault_status same) (λ no. absurd no) (λ no. absurd no) stopped

pub returns-in-Ok-show_all : goal.returns-in-Ok-show_all
returns-in-Ok-show_all g c = record {
  serves =
      let log = g.S.Site.log in
      let counts = g.S.Site.counts in
      let mid = c.serve_store.new.site in
      let new = c.show_all.new.site in
      let bytes = c.as_slice-in-Ok.ensures ∙ c.totals_line.ensures in
      runs_told server_on c.args.store.stack c.args.turns ends.Done (counts c.args.site.now) (counts mid) (counts new) c.in-Ok.totals.requests c.in-Ok.totals.hits (log c.args.site.now) (log mid) (log new) (inl refl)
      c.show_all.ensures.talks.calls.none_fell c.in-Ok.ensures.served c.in-Ok.ensures.fronts
      (subst (λ (l : List ℕ). Grows (ShowsReply l ends.Done) (log mid) (log new)) bytes (reply_whole _ (log mid) (log mid) (log new) refl c.in-Ok-show_all.ensures.told));
  survives = λ told.
      served_then_talked g.S.Site server_on c.args.store.stack StandFor g.met.S.Site.counts_now g.met.S.Site.logs_now c.as_slice-in-Ok.result.now c.args.site.now c.serve_store.new.site c.show_all.new.site
      (c.in-Ok.ensures.survives told) c.show_all.ensures.talks;
  memory = λ is. absurd (ends_apart ends.Done ends.Memory refl is);
  opened = λ is. done_opens is;
  status = inl refl;
  disk_fault = λ is. absurd (ends_apart ends.Done ends.DiskFault refl is);
  door_fault = λ is. absurd (ends_apart ends.Done ends.DoorFault refl is);
  show_fault = λ is. absurd (ends_apart ends.Done ends.ShowFault refl is);
  stops = stops_at_none _ _ _ _ _ (no_fault_then _ _ _ (served_well c.in-Ok.totals _ _ c.in-Ok.ensures.counted) (all_shown _ _ c.in-Ok-show_all.ensures.counted));
  calls = calls_then g.S.Site c.args.site.now c.serve_store.new.site c.show_all.new.site c.serve_store.ensures.calls c.show_all.ensures.talks.calls;
}

pub returns-in-Ok : goal.returns-in-Ok
returns-in-Ok g c = record {
  serves =
      let log = g.S.Site.log in
      let counts = g.S.Site.counts in
      let mid = c.serve_store.new.site in
      let new = c.show_all.new.site in
      let bytes = c.as_slice-in-Ok.ensures ∙ c.totals_line.ensures in
      runs_told server_on c.args.store.stack c.args.turns ends.ShowFault (counts c.args.site.now) (counts mid) (counts new) c.in-Ok.totals.requests c.in-Ok.totals.hits (log c.args.site.now) (log mid) (log new) (inr refl)
      c.show_all.ensures.talks.calls.none_fell c.in-Ok.ensures.served c.in-Ok.ensures.fronts
      (subst (λ (l : List ℕ). Grows (ShowsReply l ends.ShowFault) (log mid) (log new)) bytes (reply_front _ ends.ShowFault (log mid) (log mid) (log new) show_undone refl c.in-Err-show_all.ensures.told));
  survives = λ told.
      served_then_talked g.S.Site server_on c.args.store.stack StandFor g.met.S.Site.counts_now g.met.S.Site.logs_now c.as_slice-in-Ok.result.now c.args.site.now c.serve_store.new.site c.show_all.new.site
      (c.in-Ok.ensures.survives told) c.show_all.ensures.talks;
  memory = λ is. absurd (ends_apart ends.ShowFault ends.Memory refl is);
  opened = λ is. show_opens is;
  status = inr (inr (inr (inl refl)));
  disk_fault = λ is. absurd (ends_apart ends.ShowFault ends.DiskFault refl is);
  door_fault = λ is. absurd (ends_apart ends.ShowFault ends.DoorFault refl is);
  show_fault = λ is.
      let counts = g.S.Site.counts in
      then_rose ((counts c.args.site.now).show 0) ((counts c.serve_store.new.site).show 0) ((counts c.show_all.new.site).show 0) (c.serve_store.ensures.calls.none_fell.show 0) c.in-Err-show_all.ensures.failed;
  stops =
      let counts = g.S.Site.counts in
      totals_stop c.in-Ok.totals c.show_all.result (counts c.args.site.now) (counts c.serve_store.new.site) (counts c.show_all.new.site)
      c.in-Ok.ensures.counted c.show_all.ensures.counted;
  calls = calls_then g.S.Site c.args.site.now c.serve_store.new.site c.show_all.new.site c.serve_store.ensures.calls c.show_all.ensures.talks.calls;
}

pub returns : goal.returns
returns g c = record {
  serves =
      let log = g.S.Site.log in
      let counts = g.S.Site.counts in
      subst (λ (s : Status). Grows (RunsServer server_on c.args.store.stack c.args.turns s (counts c.args.site.now) (counts c.serve_store.new.site)) (log c.args.site.now) (log c.serve_store.new.site)) (sym c.fault_of.ensures)
      (runs_by_fault server_on c.args.store.stack c.args.turns c.in-Err.fault (counts c.args.site.now) (counts c.serve_store.new.site) (log c.args.site.now) (log c.serve_store.new.site)
      (λ is. ap log (c.in-Err.ensures.memory (ap Err is)))
      (λ isnt. c.in-Err.ensures.cut (λ e. let f : c.in-Err.fault ≡ serves.Memory = cc e in isnt f))
      (λ is. c.in-Err.ensures.fewer (ap Err is))
      c.in-Err.ensures.fronts c.requires.some);
  survives = λ told. served_only g.S.Site server_on c.args.store.stack StandFor c.args.site.now c.serve_store.new.site (c.in-Err.ensures.survives told);
  memory = λ is. ap g.S.Site.log (c.in-Err.ensures.memory (ap Err ((ends_turns c.in-Err.fault).memory (sym c.fault_of.ensures ∙ is))));
  opened = λ is. (ends_turns c.in-Err.fault).opened (sym c.fault_of.ensures ∙ is);
  status = subst IsServeStatus (sym c.fault_of.ensures) (ends_turns c.in-Err.fault).status;
  disk_fault = λ is. c.in-Err.ensures.disk_fault (ap Err ((ends_turns c.in-Err.fault).disk (sym c.fault_of.ensures ∙ is)));
  door_fault = λ is. c.in-Err.ensures.door_fault (ap Err ((ends_turns c.in-Err.fault).door (sym c.fault_of.ensures ∙ is)));
  show_fault = λ is. absurd ((ends_turns c.in-Err.fault).show (sym c.fault_of.ensures ∙ is));
  stops = fault_stops c.in-Err.fault c.fault_of.result _ _ c.fault_of.ensures c.in-Err.ensures.counted;
  calls = c.serve_store.ensures.calls;
}
