use Rattle.std.proofs.Common.{◌∙◌, ⊎_elim, ap, inl, inr, refl}
use Rattle.std.specs.Prelude.{Err, Ok}
use Rattle.ox_outside.proofs.Calls.{calls_then}
use Rattle.ox_outside.proofs.Counts.{stops_at_none, then_rose}
use Rattle.ox_store.specs.declared.fault.MakeFault.TheVariants as makes
use Rattle.ox_files.specs.Stands.{stands}
use Rattle.ox_app.specs.Init.{made_line, not_empty_line}
use Rattle.ox_app.specs.declared.status.Status.TheVariants as ends
use Rattle.ox_app.proofs.Images.{looked_then_talked, made_then_talked, making, only_looked, only_told, reply_none, told_after}
use Rattle.ox_app.proofs.Opening.{says_after}
use Rattle.ox_app.proofs.Settled.{settled_talking}
use Rattle.ox_app.proofs.Statuses.{ends_apart}
use Rattle.ox_app.proofs.Stops.{made_well, make_disk_stops, memory_made, none_made, not_made, said_stops, told_stops}
use Rattle.ox_app.proofs.init.init.Goals as goal

pub returns-in-Ok : goal.returns-in-Ok
returns-in-Ok g c = record {
  shows = λ isnt. told_after g.S.Site _ _ c.tell.result c.args.site.now c.make.new.site c.tell.new.site c.empty_line.ensures.text c.make.ensures.writes.as_logged c.tell.ensures.shows;
  not_empty = λ is. absurd ((only_told c.tell.result c.tell.ensures.status).not_empty is);
  only_empty = λ told is. absurd ((only_told c.tell.result c.tell.ensures.status).not_empty is);
  refuses = λ told filled. absurd (filled (c.in-Ok.ensures.empty told));
  spares = λ told filled. absurd (filled (c.in-Ok.ensures.empty told));
  made = λ told is.
      let talks = c.tell.ensures.talks in (
        ap stands talks.files.files ∙ c.in-Ok.ensures.stands told ∙ ap Ok c.in-Ok.ensures.stack,
        settled_talking g.S.Site c.make.new.site c.tell.new.site talks.files (c.in-Ok.ensures.holds told).settled,
      );
  made_before = λ told isnt.
      made_then_talked g.S.Site _ c.args.name c.args.depth c.args.site.now c.make.new.site c.tell.new.site
      c.make.ensures.writes.moments c.make.ensures.writes.as_logged (c.in-Ok.ensures.holds told).settled (c.in-Ok.ensures.stands told ∙ ap Ok c.in-Ok.ensures.stack) c.tell.ensures.talks;
  looks = λ is.
      let only = only_told c.tell.result c.tell.ensures.status in
      ⊎_elim (λ e. absurd (only.not_empty e)) (λ e. absurd (only.memory e)) is;
  status = ⊎_elim (λ is. inl is) (λ is. inr (inr (inr (inl is)))) c.tell.ensures.status;
  show_fault = λ is.
      let counts = g.S.Site.counts in
      then_rose ((counts c.args.site.now).show 0) ((counts c.make.new.site).show 0) ((counts c.tell.new.site).show 0) (c.make.ensures.writes.calls.none_fell.show 0) (c.tell.ensures.failed is);
  disk_fault = λ is. absurd ((only_told c.tell.result c.tell.ensures.status).disk is);
  stops = told_stops c.tell.result _ _ _ (made_well c.in-Ok._store _ _ c.in-Ok.ensures.counted) c.tell.ensures.counted;
  calls = calls_then g.S.Site c.args.site.now c.make.new.site c.tell.new.site c.make.ensures.writes.calls c.tell.ensures.talks.calls;
}

pub returns-in-Err-NotEmpty : goal.returns-in-Err-NotEmpty
returns-in-Err-NotEmpty g c = record {
  shows = λ isnt. absurd (isnt refl);
  not_empty = λ is.
      let looks = c.in-Err-NotEmpty.ensures.wrote_nothing (inl (ap Err c.in-Err-NotEmpty.field-0-is)) in
      says_after g.S.Site not_empty_line c.args.site.now c.make.new.site c.say.new.site looks.calls looks.nothing.as_logged c.say.ensures.says;
  only_empty = λ told is. c.in-Err-NotEmpty.ensures.not_empty told (ap Err c.in-Err-NotEmpty.field-0-is);
  refuses = λ told filled. inl refl;
  spares = λ told filled. looked_then_talked g.S.Site _ c.args.site.now c.make.new.site c.say.new.site (c.make.ensures.spared told filled) c.say.ensures.talks;
  made = λ told is. absurd (⊎_elim (ends_apart ends.NotEmpty ends.Done refl) (ends_apart ends.NotEmpty ends.ShowFault refl) is);
  made_before = λ told isnt. absurd (isnt refl);
  looks = λ is. looked_then_talked g.S.Site _ c.args.site.now c.make.new.site c.say.new.site (c.in-Err-NotEmpty.ensures.wrote_nothing (inl (ap Err c.in-Err-NotEmpty.field-0-is))) c.say.ensures.talks;
  status = inr (inl refl);
  show_fault = λ is. absurd (ends_apart ends.NotEmpty ends.ShowFault refl is);
  disk_fault = λ is. absurd (ends_apart ends.NotEmpty ends.DiskFault refl is);
  stops =
      said_stops ends.NotEmpty _ _ _ (inr (inl refl))
      (not_made c.in-Err-NotEmpty.field-0 _ _ (none_made c.in-Err-NotEmpty.field-0 c.in-Err-NotEmpty.field-0-is) c.in-Err-NotEmpty.ensures.counted)
      c.say.ensures.counted;
  calls = calls_then g.S.Site c.args.site.now c.make.new.site c.say.new.site c.make.ensures.writes.calls c.say.ensures.talks.calls;
}

pub returns-in-Err-Halt-Disk : goal.returns-in-Err-Halt-Disk
returns-in-Err-Halt-Disk g c = record {
  shows = λ isnt. reply_none made_line ends.DiskFault (g.S.Site.log c.args.site.now) (g.S.Site.log c.make.new.site) (ends_apart ends.DiskFault ends.Done refl) c.make.ensures.writes.as_logged;
  not_empty = λ is. absurd (ends_apart ends.DiskFault ends.NotEmpty refl is);
  only_empty = λ told is. absurd (ends_apart ends.DiskFault ends.NotEmpty refl is);
  refuses = λ told filled. inr (inl refl);
  spares = λ told filled. only_looked g.S.Site c.args.site.now c.make.new.site (c.make.ensures.spared told filled);
  made = λ told is. absurd (⊎_elim (ends_apart ends.DiskFault ends.Done refl) (ends_apart ends.DiskFault ends.ShowFault refl) is);
  made_before = λ told isnt. making g.S.Site c.args.name c.args.depth c.args.site.now c.make.new.site c.make.ensures.writes.moments;
  looks = λ is. absurd (⊎_elim (ends_apart ends.DiskFault ends.NotEmpty refl) (ends_apart ends.DiskFault ends.Memory refl) is);
  status = inr (inr (inl refl));
  show_fault = λ is. absurd (ends_apart ends.DiskFault ends.ShowFault refl is);
  disk_fault = λ is. c.in-Err-Halt-Disk.ensures.failed (ap Err (c.in-Err-Halt-Disk.field-0-is ∙ ap makes.Halt c.in-Err-Halt-Disk.field-0-0-is));
  stops = make_disk_stops c.in-Err-Halt-Disk.field-0 _ _ c.in-Err-Halt-Disk.ensures.counted;
  calls = c.make.ensures.writes.calls;
}

pub returns-in-Err-Halt-Memory : goal.returns-in-Err-Halt-Memory
returns-in-Err-Halt-Memory g c = record {
  shows = λ isnt. reply_none made_line ends.Memory (g.S.Site.log c.args.site.now) (g.S.Site.log c.make.new.site) (ends_apart ends.Memory ends.Done refl) c.make.ensures.writes.as_logged;
  not_empty = λ is. absurd (ends_apart ends.Memory ends.NotEmpty refl is);
  only_empty = λ told is. absurd (ends_apart ends.Memory ends.NotEmpty refl is);
  refuses = λ told filled. inr (inr refl);
  spares = λ told filled. only_looked g.S.Site c.args.site.now c.make.new.site (c.make.ensures.spared told filled);
  made = λ told is. absurd (⊎_elim (ends_apart ends.Memory ends.Done refl) (ends_apart ends.Memory ends.ShowFault refl) is);
  made_before = λ told isnt. making g.S.Site c.args.name c.args.depth c.args.site.now c.make.new.site c.make.ensures.writes.moments;
  looks = λ is. only_looked g.S.Site c.args.site.now c.make.new.site (c.in-Err-Halt-Memory.ensures.wrote_nothing (inr (ap Err (c.in-Err-Halt-Memory.field-0-is ∙ ap makes.Halt c.in-Err-Halt-Memory.field-0-0-is))));
  status = inr (inr (inr (inr refl)));
  show_fault = λ is. absurd (ends_apart ends.Memory ends.ShowFault refl is);
  disk_fault = λ is. absurd (ends_apart ends.Memory ends.DiskFault refl is);
  stops = stops_at_none _ _ _ _ _ (not_made c.in-Err-Halt-Memory.field-0 _ _ (memory_made c.in-Err-Halt-Memory.field-0 (c.in-Err-Halt-Memory.field-0-is ∙ ap makes.Halt c.in-Err-Halt-Memory.field-0-0-is)) c.in-Err-Halt-Memory.ensures.counted);
  calls = c.make.ensures.writes.calls;
}
