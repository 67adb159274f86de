use Rattle.std.proofs.Common.{◌∙◌, ⊎_elim, ℕ, List, ap, inl, inr, refl, subst}
use Rattle.std.specs.Prelude.{Err}
use Rattle.ox_outside.proofs.Calls.{calls_then}
use Rattle.ox_outside.proofs.Counts.{stops_at_none, then_rose}
use Rattle.ox_gated.specs.declared.fault.Halt.TheVariants as halts
use Rattle.ox_drill.specs.Drill.{DrillsInTurn}
use Rattle.ox_store.specs.declared.fault.MakeFault.{MakeFault}
use Rattle.ox_store.specs.declared.fault.MakeFault.TheVariants as makes
use Rattle.ox_app.specs.Drill.{told_line}
use Rattle.ox_app.specs.Init.{not_empty_line}
use Rattle.ox_app.specs.declared.status.Status.TheVariants as ends
use Rattle.ox_app.proofs.Drilling.{drill_refused, drill_stopped, drill_told}
use Rattle.ox_app.proofs.Images.{looked_then_talked, only_told, reply_none, told_after}
use Rattle.ox_app.proofs.Opening.{says_after}
use Rattle.ox_app.proofs.Statuses.{ends_apart}
use Rattle.ox_app.proofs.Stops.{made_well, make_disk_stops, memory_made, none_made, not_made, said_stops, told_stops}
use Rattle.ox_app.proofs.drill.drill.Goals as goal

pub returns-in-Ok : goal.returns-in-Ok
returns-in-Ok g c = record {
  shows = λ isnt. told_after g.S.Site _ _ c.tell.result c.args.site.now c.drill_store.new.site c.tell.new.site (c.as_slice.ensures ∙ c.in-Ok.ensures.line) c.drill_store.ensures.writes.as_logged c.tell.ensures.shows;
  runs = λ told.
      drill_told g.S.Site c.in-Ok.line _ c.args.n c.tell.result c.args.site.now c.drill_store.new.site c.tell.new.site c.tell.ensures.status
      (c.in-Ok.ensures.in_turn told) (c.in-Ok.ensures.drilled told) (c.in-Ok.ensures.empty told) c.drill_store.ensures.writes c.tell.ensures.talks;
  not_empty = λ is. absurd ((only_told c.tell.result c.tell.ensures.status).not_empty is);
  only_files = λ told is. absurd ((only_told c.tell.result c.tell.ensures.status).not_empty is);
  looks = λ is. absurd ((only_told c.tell.result c.tell.ensures.status).not_empty is);
  status = ⊎_elim (λ is. inl is) (λ is. inr (inr (inr (inl is)))) c.tell.ensures.status;
  show_fault = λ is.
      let counts = g.S.Site.counts in
      then_rose ((counts c.args.site.now).show 0) ((counts c.drill_store.new.site).show 0) ((counts c.tell.new.site).show 0) (c.drill_store.ensures.writes.calls.none_fell.show 0) (c.tell.ensures.failed is);
  disk_fault = λ is. absurd ((only_told c.tell.result c.tell.ensures.status).disk is);
  stops = told_stops c.tell.result _ _ _ (made_well c.in-Ok.line _ _ c.in-Ok.ensures.counted) c.tell.ensures.counted;
  calls = calls_then g.S.Site c.args.site.now c.drill_store.new.site c.tell.new.site c.drill_store.ensures.writes.calls c.tell.ensures.talks.calls;
}

pub returns-in-Err-NotEmpty : goal.returns-in-Err-NotEmpty
returns-in-Err-NotEmpty g c = record {
  shows = λ isnt. absurd (isnt refl);
  runs = λ told. drill_refused g.S.Site _ c.args.n c.args.site.now c.drill_store.new.site c.say.new.site (c.in-Err-NotEmpty.ensures.wrote_nothing (ap Err c.in-Err-NotEmpty.field-0-is)) c.say.ensures.talks;
  not_empty = λ is.
      let looks = c.in-Err-NotEmpty.ensures.wrote_nothing (ap Err c.in-Err-NotEmpty.field-0-is) in
      says_after g.S.Site not_empty_line c.args.site.now c.drill_store.new.site c.say.new.site looks.calls looks.nothing.as_logged c.say.ensures.says;
  only_files = λ told is. c.in-Err-NotEmpty.ensures.not_empty told (ap Err c.in-Err-NotEmpty.field-0-is);
  looks = λ is. looked_then_talked g.S.Site _ c.args.site.now c.drill_store.new.site c.say.new.site (c.in-Err-NotEmpty.ensures.wrote_nothing (ap Err c.in-Err-NotEmpty.field-0-is)) c.say.ensures.talks;
  status = inr (inl refl);
  show_fault = λ is. absurd (ends_apart ends.NotEmpty ends.ShowFault refl is);
  disk_fault = λ is. absurd (ends_apart ends.NotEmpty ends.DiskFault refl is);
  stops =
      said_stops ends.NotEmpty _ _ _ (inr (inl refl))
      (not_made c.in-Err-NotEmpty.field-0 _ _ (none_made c.in-Err-NotEmpty.field-0 c.in-Err-NotEmpty.field-0-is) c.in-Err-NotEmpty.ensures.counted)
      c.say.ensures.counted;
  calls = calls_then g.S.Site c.args.site.now c.drill_store.new.site c.say.new.site c.drill_store.ensures.writes.calls c.say.ensures.talks.calls;
}

pub returns-in-Err-Halt-Disk : goal.returns-in-Err-Halt-Disk
returns-in-Err-Halt-Disk g c = record {
  shows = λ isnt. reply_none (told_line c.args.n) ends.DiskFault (g.S.Site.log c.args.site.now) (g.S.Site.log c.drill_store.new.site) (ends_apart ends.DiskFault ends.Done refl) c.drill_store.ensures.writes.as_logged;
  runs = λ told.
      drill_stopped g.S.Site g.met.S.Site.only_now g.met.S.Site.logs_now (makes.Halt halts.Disk) c.args.n c.args.site.now c.drill_store.new.site
      (subst (λ (f : MakeFault). DrillsInTurn {T = List ℕ} g.S.Site c.args.n (Err f) c.args.site.now c.drill_store.new.site) (c.in-Err-Halt-Disk.field-0-is ∙ ap makes.Halt c.in-Err-Halt-Disk.field-0-0-is) (c.in-Err-Halt-Disk.ensures.in_turn told))
      c.drill_store.ensures.writes (c.drill_store.ensures.spared told);
  not_empty = λ is. absurd (ends_apart ends.DiskFault ends.NotEmpty refl is);
  only_files = λ told is. absurd (ends_apart ends.DiskFault ends.NotEmpty refl is);
  looks = λ is. absurd (ends_apart ends.DiskFault ends.NotEmpty refl is);
  status = inr (inr (inl refl));
  show_fault = λ is. absurd (ends_apart ends.DiskFault ends.ShowFault refl is);
  disk_fault = λ is. c.in-Err-Halt-Disk.ensures.failed (ap Err (c.in-Err-Halt-Disk.field-0-is ∙ ap makes.Halt c.in-Err-Halt-Disk.field-0-0-is));
  stops = make_disk_stops c.in-Err-Halt-Disk.field-0 _ _ c.in-Err-Halt-Disk.ensures.counted;
  calls = c.drill_store.ensures.writes.calls;
}

pub returns-in-Err-Halt-Memory : goal.returns-in-Err-Halt-Memory
returns-in-Err-Halt-Memory g c = record {
  shows = λ isnt. reply_none (told_line c.args.n) ends.Memory (g.S.Site.log c.args.site.now) (g.S.Site.log c.drill_store.new.site) (ends_apart ends.Memory ends.Done refl) c.drill_store.ensures.writes.as_logged;
  runs = λ told.
      drill_stopped g.S.Site g.met.S.Site.only_now g.met.S.Site.logs_now (makes.Halt halts.Memory) c.args.n c.args.site.now c.drill_store.new.site
      (subst (λ (f : MakeFault). DrillsInTurn {T = List ℕ} g.S.Site c.args.n (Err f) c.args.site.now c.drill_store.new.site) (c.in-Err-Halt-Memory.field-0-is ∙ ap makes.Halt c.in-Err-Halt-Memory.field-0-0-is) (c.in-Err-Halt-Memory.ensures.in_turn told))
      c.drill_store.ensures.writes (c.drill_store.ensures.spared told);
  not_empty = λ is. absurd (ends_apart ends.Memory ends.NotEmpty refl is);
  only_files = λ told is. absurd (ends_apart ends.Memory ends.NotEmpty refl is);
  looks = λ is. absurd (ends_apart ends.Memory ends.NotEmpty refl is);
  status = inr (inr (inr (inr refl)));
  show_fault = λ is. absurd (ends_apart ends.Memory ends.ShowFault refl is);
  disk_fault = λ is. absurd (ends_apart ends.Memory ends.DiskFault refl is);
  stops = stops_at_none _ _ _ _ _ (not_made c.in-Err-Halt-Memory.field-0 _ _ (memory_made c.in-Err-Halt-Memory.field-0 (c.in-Err-Halt-Memory.field-0-is ∙ ap makes.Halt c.in-Err-Halt-Memory.field-0-0-is)) c.in-Err-Halt-Memory.ensures.counted);
  calls = c.drill_store.ensures.writes.calls;
}
