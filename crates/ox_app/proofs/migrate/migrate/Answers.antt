use Rattle.std.proofs.Common.{◌∙◌, ⊎_elim, ℕ, ap, inl, inr, refl, subst}
use Rattle.std.specs.Prelude.{Err, Ok}
use Rattle.ox_store.specs.Migrate.{IsOldFault}
use Rattle.ox_store.specs.declared.fault.OpenFault.TheVariants as opens
use Rattle.ox_outside.proofs.Calls.{calls_then, looks_none, no_call}
use Rattle.ox_outside.proofs.Counts.{no_fault_yet, stops_at_none, then_rose}
use Rattle.ox_store.specs.declared.fault.MigrateFault.TheVariants as migrates
use Rattle.ox_model.specs.Stack.{Stack}
use Rattle.ox_files.specs.OldStands.{old_stands}
use Rattle.ox_files.specs.Stands.{stands}
use Rattle.ox_app.specs.Migrate.{migrated_line}
use Rattle.ox_app.specs.declared.status.Status.TheVariants as ends
use Rattle.ox_app.proofs.Images.{looked_then_talked, memory_undone, only_looked, reply_none, says_nothing, told_after}
use Rattle.ox_app.proofs.Settled.{settled_talking}
use Rattle.ox_app.proofs.Statuses.{ends_apart}
use Rattle.ox_app.proofs.Stops.{told_stops}
use Rattle.ox_app.proofs.Unmigrated.{disk_stops, disk_unmigrated, ill_unmigrated, memory_isnt_disk, memory_unmigrated, migrated_well, not_disk_old, not_migrated, old_ends, old_isnt_disk, old_not_store, old_quiet, old_says, old_stops, only_told_old, refused_unmigrated, store_isnt_disk, unopened_apart, unopened_migrate, unmigrated_disk, unmigrated_says, unmigrated_stops}
use Rattle.ox_app.proofs.Migrating.{migrated_told, same_made, unmigrated_yet, while_migrated}
use Rattle.ox_app.proofs.migrate.migrate.Goals as goal

pub returns-in_default : goal.returns-in_default
returns-in_default g c = record {
  shows = λ told stack commands stood. ((ends_apart ends.Memory ends.NotStore refl), (ends_apart ends.Memory ends.OldCommand refl), reply_none _ ends.Memory (g.S.Site.log c.args.site.now) (g.S.Site.log c.args.site.now) memory_undone refl);
  migrated = λ told stack commands stood is. absurd (⊎_elim memory_undone (ends_apart ends.Memory ends.ShowFault refl) is);
  survives = λ told stack commands stood. unmigrated_yet g.S.Site stack commands g.met.S.Site.only_now g.met.S.Site.logs_now c.args.site.now;
  unmigrated = λ told fault failed. memory_unmigrated fault;
  unsaid = λ told fault failed store old. refl;
  spares = λ told fault failed. only_looked g.S.Site c.args.site.now c.args.site.now (looks_none g.S.Site g.met.S.Site.only_now c.args.site.now);
  not_store = λ is. absurd (ends_apart ends.Memory ends.NotStore refl is);
  old_command = λ is. absurd (ends_apart ends.Memory ends.OldCommand refl is);
  looks = λ is. only_looked g.S.Site c.args.site.now c.args.site.now (looks_none g.S.Site g.met.S.Site.only_now c.args.site.now);
  status = inr (inr (inr (inr (inl refl))));
  show_fault = λ is. absurd (ends_apart ends.Memory ends.ShowFault refl is);
  disk_fault = λ is. absurd (ends_apart ends.Memory ends.DiskFault refl is);
  stops = stops_at_none _ _ _ _ _ (no_fault_yet (g.S.Site.counts c.args.site.now));
  calls = no_call g.S.Site c.args.site.now;
}

pub returns-in-Ok-migrate : goal.returns-in-Ok-migrate
returns-in-Ok-migrate g c = record {
  shows = λ told stack commands stood.
      let only = only_told_old c.tell.result c.tell.ensures.status in
      let same = same_made (old_stands (g.S.Site.seen c.args.site.now)) (c.in-Ok-migrate._store.stack, c.in-Ok-migrate.commands) (stack, commands) (c.in-Ok-migrate.ensures.commands told) stood in (
        only.store,
        only.old,
        told_after g.S.Site _ _ c.tell.result c.args.site.now c.migrate.new.site c.tell.new.site (c.as_slice-in-Ok-migrate.ensures ∙ c.migrated_line.ensures ∙ ap (λ (m : Stack × ℕ). migrated_line m.1) same) c.migrate.ensures.writes.as_logged c.tell.ensures.shows,
      );
  migrated = λ told stack commands stood is.
      let talks = c.tell.ensures.talks in
      let same = same_made (old_stands (g.S.Site.seen c.args.site.now)) (c.in-Ok-migrate._store.stack, c.in-Ok-migrate.commands) (stack, commands) (c.in-Ok-migrate.ensures.commands told) stood in (
        ap stands talks.files.files ∙ c.in-Ok-migrate.ensures.stands told ∙ ap (λ (m : Stack × ℕ). Ok m.0) same,
        settled_talking g.S.Site c.migrate.new.site c.tell.new.site talks.files (c.in-Ok-migrate.ensures.holds told).settled,
      );
  survives = λ told stack commands stood.
      migrated_told g.S.Site stack commands _ c.args.site.now c.migrate.new.site c.tell.new.site (c.in-Ok-migrate._store.stack, c.in-Ok-migrate.commands) stood
      (c.in-Ok-migrate.ensures.commands told) (c.in-Ok-migrate.ensures.stands told) (c.in-Ok-migrate.ensures.holds told).settled
      (c.migrate.ensures.any_moment told) c.migrate.ensures.writes c.tell.ensures.talks;
  unmigrated = λ told fault failed. not_migrated (old_stands (g.S.Site.seen c.args.site.now)) (c.in-Ok-migrate._store.stack, c.in-Ok-migrate.commands) fault (c.in-Ok-migrate.ensures.commands told) failed;
  unsaid = λ told fault failed store old. not_migrated (old_stands (g.S.Site.seen c.args.site.now)) (c.in-Ok-migrate._store.stack, c.in-Ok-migrate.commands) fault (c.in-Ok-migrate.ensures.commands told) failed;
  spares = λ told fault failed. not_migrated (old_stands (g.S.Site.seen c.args.site.now)) (c.in-Ok-migrate._store.stack, c.in-Ok-migrate.commands) fault (c.in-Ok-migrate.ensures.commands told) failed;
  not_store = λ is. absurd ((only_told_old c.tell.result c.tell.ensures.status).store is);
  old_command = λ is. absurd ((only_told_old c.tell.result c.tell.ensures.status).old is);
  looks = λ is.
      let only = only_told_old c.tell.result c.tell.ensures.status in
      absurd (⊎_elim only.store (λ other. ⊎_elim only.old only.memory other) is);
  status = ⊎_elim (λ is. inl is) (λ is. inr (inr (inr (inl is)))) c.tell.ensures.status;
  show_fault = λ is.
      let counts = g.S.Site.counts in
      then_rose ((counts c.args.site.now).show 0) ((counts c.migrate.new.site).show 0) ((counts c.tell.new.site).show 0) (c.migrate.ensures.writes.calls.none_fell.show 0) (c.tell.ensures.failed is);
  disk_fault = λ is. absurd ((only_told_old c.tell.result c.tell.ensures.status).disk is);
  stops = told_stops c.tell.result _ _ _ (migrated_well (c.in-Ok-migrate._store, c.in-Ok-migrate.commands) _ _ c.in-Ok-migrate.ensures.counted) c.tell.ensures.counted;
  calls = calls_then g.S.Site c.args.site.now c.migrate.new.site c.tell.new.site c.migrate.ensures.writes.calls c.tell.ensures.talks.calls;
}

pub returns-in-Err-NotStore : goal.returns-in-Err-NotStore
returns-in-Err-NotStore g c = record {
  shows = λ told stack commands stood.
      let ill = subst (IsOldFault (old_stands (g.S.Site.seen c.args.site.now))) c.in-Err-NotStore.field-0-is (c.in-Err-NotStore.ensures.fault told) in
      not_migrated (old_stands (g.S.Site.seen c.args.site.now)) (stack, commands) _ stood ill;
  migrated = λ told stack commands stood is.
      let ill = subst (IsOldFault (old_stands (g.S.Site.seen c.args.site.now))) c.in-Err-NotStore.field-0-is (c.in-Err-NotStore.ensures.fault told) in
      not_migrated (old_stands (g.S.Site.seen c.args.site.now)) (stack, commands) _ stood ill;
  survives = λ told stack commands stood.
      let ill = subst (IsOldFault (old_stands (g.S.Site.seen c.args.site.now))) c.in-Err-NotStore.field-0-is (c.in-Err-NotStore.ensures.fault told) in
      not_migrated (old_stands (g.S.Site.seen c.args.site.now)) (stack, commands) _ stood ill;
  unmigrated = λ told fault failed.
      let ill = subst (IsOldFault (old_stands (g.S.Site.seen c.args.site.now))) c.in-Err-NotStore.field-0-is (c.in-Err-NotStore.ensures.fault told) in
      ill_unmigrated (old_stands (g.S.Site.seen c.args.site.now)) _ fault c.explain.result ill failed c.explain.ensures.status;
  unsaid = λ told fault failed store old.
      let says = rw (c.in-Err-NotStore.file-is, c.in-Err-NotStore.at-is) at c.explain.ensures.says in
      says_nothing g.S.Site (opens.NotStore c.in-Err-NotStore.file c.in-Err-NotStore.at) c.explain.result c.migrate.new.site c.explain.new.site says store ∙ c.migrate.ensures.writes.as_logged;
  spares = λ told fault failed. looked_then_talked g.S.Site _ c.args.site.now c.migrate.new.site c.explain.new.site (c.migrate.ensures.untouched told fault failed) c.explain.ensures.talks;
  not_store = λ is.
      let says = rw (c.in-Err-NotStore.file-is, c.in-Err-NotStore.at-is) at c.explain.ensures.says in
      unmigrated_says g.S.Site c.in-Err-NotStore.file c.in-Err-NotStore.at c.explain.result c.args.site.now c.migrate.new.site c.explain.new.site c.migrate.ensures.writes.calls c.migrate.ensures.writes.as_logged
      (λ told. let ill = subst (IsOldFault (old_stands (g.S.Site.seen c.args.site.now))) c.in-Err-NotStore.field-0-is (c.in-Err-NotStore.ensures.fault told) in ill) says is;
  old_command = λ is. absurd ((unopened_apart c.explain.result c.explain.ensures.status).old is);
  looks = λ is.
      looked_then_talked g.S.Site _ c.args.site.now c.migrate.new.site c.explain.new.site
      (c.in-Err-NotStore.ensures.wrote_nothing (store_isnt_disk c.in-Err-NotStore.field-0 _ _ c.in-Err-NotStore.field-0-is)) c.explain.ensures.talks;
  status = unopened_migrate c.explain.result c.explain.ensures.status;
  show_fault = λ is. absurd ((unopened_apart c.explain.result c.explain.ensures.status).show is);
  disk_fault = λ is. absurd (unmigrated_disk g.S.Site _ _ c.explain.result _ _ c.explain.ensures.says is);
  stops = unmigrated_stops c.explain.result _ _ _ (not_disk_old c.in-Err-NotStore.field-0 _ _ (store_isnt_disk c.in-Err-NotStore.field-0 _ _ c.in-Err-NotStore.field-0-is) c.in-Err-NotStore.ensures.counted) c.explain.ensures.counted;
  calls = calls_then g.S.Site c.args.site.now c.migrate.new.site c.explain.new.site c.migrate.ensures.writes.calls c.explain.ensures.talks.calls;
}

pub returns-in-Err-Old : goal.returns-in-Err-Old
returns-in-Err-Old g c = record {
  shows = λ told stack commands stood.
      let old = subst (IsOldFault (old_stands (g.S.Site.seen c.args.site.now))) c.in-Err-Old.field-0-is (c.in-Err-Old.ensures.fault told) in
      not_migrated (old_stands (g.S.Site.seen c.args.site.now)) (stack, commands) _ stood old;
  migrated = λ told stack commands stood is.
      let old = subst (IsOldFault (old_stands (g.S.Site.seen c.args.site.now))) c.in-Err-Old.field-0-is (c.in-Err-Old.ensures.fault told) in
      not_migrated (old_stands (g.S.Site.seen c.args.site.now)) (stack, commands) _ stood old;
  survives = λ told stack commands stood.
      let old = subst (IsOldFault (old_stands (g.S.Site.seen c.args.site.now))) c.in-Err-Old.field-0-is (c.in-Err-Old.ensures.fault told) in
      not_migrated (old_stands (g.S.Site.seen c.args.site.now)) (stack, commands) _ stood old;
  unmigrated = λ told fault failed.
      let old = subst (IsOldFault (old_stands (g.S.Site.seen c.args.site.now))) c.in-Err-Old.field-0-is (c.in-Err-Old.ensures.fault told) in
      refused_unmigrated (old_stands (g.S.Site.seen c.args.site.now)) _ _ fault c.explain_old.result old failed (old_ends g.S.Site _ _ c.explain_old.result _ _ c.explain_old.ensures.says);
  unsaid = λ told fault failed store old. old_quiet g.S.Site _ _ c.explain_old.result c.migrate.new.site c.explain_old.new.site c.explain_old.ensures.says old ∙ c.migrate.ensures.writes.as_logged;
  spares = λ told fault failed. looked_then_talked g.S.Site _ c.args.site.now c.migrate.new.site c.explain_old.new.site (c.migrate.ensures.untouched told fault failed) c.explain_old.ensures.talks;
  not_store = λ is. absurd ((old_not_store c.explain_old.result (old_ends g.S.Site _ _ c.explain_old.result _ _ c.explain_old.ensures.says)).store is);
  old_command = λ is.
      let says = rw (c.in-Err-Old.command-is, c.in-Err-Old.refusal-is) at c.explain_old.ensures.says in
      old_says g.S.Site c.in-Err-Old.command c.in-Err-Old.refusal c.explain_old.result c.args.site.now c.migrate.new.site c.explain_old.new.site c.migrate.ensures.writes.calls c.migrate.ensures.writes.as_logged
      (λ told. let old = subst (IsOldFault (old_stands (g.S.Site.seen c.args.site.now))) c.in-Err-Old.field-0-is (c.in-Err-Old.ensures.fault told) in old) says is;
  looks = λ is.
      looked_then_talked g.S.Site _ c.args.site.now c.migrate.new.site c.explain_old.new.site
      (c.in-Err-Old.ensures.wrote_nothing (old_isnt_disk c.in-Err-Old.field-0 _ _ c.in-Err-Old.field-0-is)) c.explain_old.ensures.talks;
  status = ⊎_elim (λ is. inr (inr (inr (inr (inr is))))) (λ is. inr (inr (inr (inr (inl is))))) (old_ends g.S.Site _ _ c.explain_old.result _ _ c.explain_old.ensures.says);
  show_fault = λ is. absurd ((old_not_store c.explain_old.result (old_ends g.S.Site _ _ c.explain_old.result _ _ c.explain_old.ensures.says)).show is);
  disk_fault = λ is. absurd ((old_not_store c.explain_old.result (old_ends g.S.Site _ _ c.explain_old.result _ _ c.explain_old.ensures.says)).disk is);
  stops = old_stops c.explain_old.result _ _ _ (not_disk_old c.in-Err-Old.field-0 _ _ (old_isnt_disk c.in-Err-Old.field-0 _ _ c.in-Err-Old.field-0-is) c.in-Err-Old.ensures.counted) c.explain_old.ensures.counted;
  calls = calls_then g.S.Site c.args.site.now c.migrate.new.site c.explain_old.new.site c.migrate.ensures.writes.calls c.explain_old.ensures.talks.calls;
}

pub returns-in-Err-Halt-Disk : goal.returns-in-Err-Halt-Disk
returns-in-Err-Halt-Disk g c = record {
  shows = λ told stack commands stood. ((ends_apart ends.DiskFault ends.NotStore refl), (ends_apart ends.DiskFault ends.OldCommand refl), reply_none _ ends.DiskFault (g.S.Site.log c.args.site.now) (g.S.Site.log c.migrate.new.site) (ends_apart ends.DiskFault ends.Done refl) c.migrate.ensures.writes.as_logged);
  migrated = λ told stack commands stood is. absurd (⊎_elim (ends_apart ends.DiskFault ends.Done refl) (ends_apart ends.DiskFault ends.ShowFault refl) is);
  survives = λ told stack commands stood. while_migrated g.S.Site stack commands c.args.site.now c.migrate.new.site stood (c.migrate.ensures.any_moment told) c.migrate.ensures.writes;
  unmigrated = λ told fault failed. disk_unmigrated fault;
  unsaid = λ told fault failed store old. c.migrate.ensures.writes.as_logged;
  spares = λ told fault failed. only_looked g.S.Site c.args.site.now c.migrate.new.site (c.migrate.ensures.untouched told fault failed);
  not_store = λ is. absurd (ends_apart ends.DiskFault ends.NotStore refl is);
  old_command = λ is. absurd (ends_apart ends.DiskFault ends.OldCommand refl is);
  looks = λ is. absurd (⊎_elim (ends_apart ends.DiskFault ends.NotStore refl) (λ other. ⊎_elim (ends_apart ends.DiskFault ends.OldCommand refl) (ends_apart ends.DiskFault ends.Memory refl) other) is);
  status = inr (inr (inl refl));
  show_fault = λ is. absurd (ends_apart ends.DiskFault ends.ShowFault refl is);
  disk_fault = λ is. c.in-Err-Halt-Disk.ensures.failed (ap Err (c.in-Err-Halt-Disk.field-0-is ∙ ap migrates.Halt (rw c.in-Err-Halt-Disk.field-0-is at c.in-Err-Halt-Disk.field-0-0-is)));
  stops = disk_stops c.in-Err-Halt-Disk.field-0 _ _ c.in-Err-Halt-Disk.ensures.counted;
  calls = c.migrate.ensures.writes.calls;
}

pub returns : goal.returns
returns g c = record {
  shows = λ told stack commands stood. ((ends_apart ends.Memory ends.NotStore refl), (ends_apart ends.Memory ends.OldCommand refl), reply_none _ ends.Memory (g.S.Site.log c.args.site.now) (g.S.Site.log c.migrate.new.site) memory_undone c.migrate.ensures.writes.as_logged);
  migrated = λ told stack commands stood is. absurd (⊎_elim memory_undone (ends_apart ends.Memory ends.ShowFault refl) is);
  survives = λ told stack commands stood. while_migrated g.S.Site stack commands c.args.site.now c.migrate.new.site stood (c.migrate.ensures.any_moment told) c.migrate.ensures.writes;
  unmigrated = λ told fault failed. memory_unmigrated fault;
  unsaid = λ told fault failed store old. c.migrate.ensures.writes.as_logged;
  spares = λ told fault failed. only_looked g.S.Site c.args.site.now c.migrate.new.site (c.migrate.ensures.untouched told fault failed);
  not_store = λ is. absurd (ends_apart ends.Memory ends.NotStore refl is);
  old_command = λ is. absurd (ends_apart ends.Memory ends.OldCommand refl is);
  looks = λ is. only_looked g.S.Site c.args.site.now c.migrate.new.site (c.in-Err-Halt-Memory.ensures.wrote_nothing (memory_isnt_disk c.in-Err-Halt-Memory.field-0 (c.in-Err-Halt-Memory.field-0-is ∙ ap migrates.Halt (rw c.in-Err-Halt-Memory.field-0-is at c.in-Err-Halt-Memory.field-0-0-is))));
  status = inr (inr (inr (inr (inl refl))));
  show_fault = λ is. absurd (ends_apart ends.Memory ends.ShowFault refl is);
  disk_fault = λ is. absurd (ends_apart ends.Memory ends.DiskFault refl is);
  stops = stops_at_none _ _ _ _ _ (not_disk_old c.in-Err-Halt-Memory.field-0 _ _ (memory_isnt_disk c.in-Err-Halt-Memory.field-0 (c.in-Err-Halt-Memory.field-0-is ∙ ap migrates.Halt (rw c.in-Err-Halt-Memory.field-0-is at c.in-Err-Halt-Memory.field-0-0-is))) c.in-Err-Halt-Memory.ensures.counted);
  calls = c.migrate.ensures.writes.calls;
}
