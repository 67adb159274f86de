use Rattle.std.proofs.Common.{◌≡◌, ◌∙◌, ⊎_elim, ap, inl, inr, refl, subst, sym}
use Rattle.std.specs.Prelude.{Err, IsTrue, Ok}
use Rattle.ox_outside.proofs.Calls.{calls_then}
use Rattle.ox_outside.proofs.Counts.{stops_at_none, then_rose}
use Rattle.ox_files.specs.Stands.{stands}
use Rattle.ox_model.specs.Stack.{Stack}
use Rattle.ox_store.specs.Fault.{IsMisfit}
use Rattle.ox_store.specs.Grow.{growing}
use Rattle.ox_store.specs.declared.fault.OpenFault.TheVariants as opens
use Rattle.ox_app.specs.Grow.{HasGrownFiles, StandsForGrowing}
use Rattle.ox_app.specs.Show.{DiskFails, ShowFails}
use Rattle.ox_app.specs.declared.status.Status.TheVariants as ends
use Rattle.ox_app.proofs.AnyRuns.{grown_in_turn}
use Rattle.ox_app.proofs.Done.{text_done}
use Rattle.ox_app.proofs.Growing.{disk_stops_growing, grown_files, grown_told, grown_well, memory_isnt_disk, misfit_isnt_disk, not_disk_grown, not_grown, only_told_grown, told_grow, ungrown_says, unopened_grow, while_grown}
use Rattle.ox_app.proofs.Images.{looked_then_talked, memory_undone, only_looked, reply_none, same_stack, says_nothing, told_after}
use Rattle.ox_app.proofs.Settled.{settled_talking}
use Rattle.ox_app.proofs.Statuses.{ends_apart}
use Rattle.ox_app.proofs.Stops.{told_stops}
use Rattle.ox_app.proofs.Unmigrated.{unmigrated_disk, unmigrated_stops, unopened_apart}
use Rattle.ox_app.proofs.grow.grow.Goals as goal

pub returns-in-Ok : goal.returns-in-Ok
returns-in-Ok g c =
    let only = only_told_grown c.tell.result c.tell.ensures.status in
    let counts = g.S.Site.counts in
    let show_fault = λ (is : c.tell.result ≡ ends.ShowFault).
    then_rose ((counts c.args.site.now).show 0) ((counts c.grow.new.site).show 0) ((counts c.tell.new.site).show 0) (c.grow.ensures.writes.calls.none_fell.show 0) (c.tell.ensures.failed is) in
    let same = λ (stack : Stack) (opened : StandsForGrowing g.S.Site c.args.site.now stack).
    same_stack (growing (g.S.Site.seen c.args.site.now)) c.in-Ok._store.stack stack (c.in-Ok.ensures.grown opened.told) opened.stands_for in
    let version = λ (stack : Stack) (opened : StandsForGrowing g.S.Site c.args.site.now stack).
    grown_files (g.S.Site.seen c.args.site.now) (g.S.Site.seen c.grow.new.site) stack c.in-Ok._store.tail opened.stands_for (c.in-Ok.ensures.turned opened.told)
    (c.in-Ok.ensures.holds opened.told).keeps (c.in-Ok.ensures.shut opened.told) in
    let survives = λ (stack : Stack) (opened : StandsForGrowing g.S.Site c.args.site.now stack).
    grown_told g.S.Site stack _ c.args.site.now c.grow.new.site c.tell.new.site opened.stands_for (c.in-Ok.ensures.stands opened.told ∙ ap Ok (same stack opened)) (version stack opened)
    (c.in-Ok.ensures.holds opened.told).settled (c.grow.ensures.any_moment opened.told) c.grow.ensures.writes c.tell.ensures.talks in
    record {
      grows = record {
        grows = λ stack opened. (
          only.store,
          told_after g.S.Site _ _ c.tell.result c.args.site.now c.grow.new.site c.tell.new.site refl c.grow.ensures.writes.as_logged c.tell.ensures.shows,
        );
        grown = λ stack opened is.
            let talks = c.tell.ensures.talks in
            record {
              stands_for = ap stands talks.files.files ∙ c.in-Ok.ensures.stands opened.told ∙ ap Ok (same stack opened);
              version = subst HasGrownFiles (sym talks.files.files) (version stack opened);
              settled = settled_talking g.S.Site c.grow.new.site c.tell.new.site talks.files (c.in-Ok.ensures.holds opened.told).settled;
            };
        grow_survives = survives;
        grow_in_turn = λ stack opened. grown_in_turn g.S.Site stack c.args.site.now c.tell.new.site opened.stands_for (survives stack opened);
        ungrown = λ misfit opened. not_grown (growing (g.S.Site.seen c.args.site.now)) c.in-Ok._store.stack misfit (c.in-Ok.ensures.grown opened.told) opened.fails;
        no_growing = λ is. absurd (only.store is);
        grow_status = told_grow c.tell.result c.tell.ensures.status;
        grow_completes = λ stack opened no_disk no_show.
            text_done c.tell.result ends.NotStore (DiskFails g.S.Site c.args.site.now c.tell.new.site) (ShowFails g.S.Site c.args.site.now c.tell.new.site)
            (told_grow c.tell.result c.tell.ensures.status) only.store (λ is. absurd (only.disk is)) show_fault no_disk no_show;
      };
      looks = λ is. absurd (only.store is);
      disk_fault = λ is. absurd (only.disk is);
      show_fault = show_fault;
      stops = told_stops c.tell.result _ _ _ (grown_well c.in-Ok._store _ _ c.in-Ok.ensures.counted) c.tell.ensures.counted;
      calls = calls_then g.S.Site c.args.site.now c.grow.new.site c.tell.new.site c.grow.ensures.writes.calls c.tell.ensures.talks.calls;
    }

pub returns-in-Err-NotStore : goal.returns-in-Err-NotStore
returns-in-Err-NotStore g c =
    let standing = growing (g.S.Site.seen c.args.site.now) in
    let fails : IsTrue (g.S.Site.told c.args.site.now) → IsMisfit standing (opens.NotStore c.in-Err-NotStore.file c.in-Err-NotStore.at) =
    λ told. subst (IsMisfit standing) c.in-Err-NotStore.field-0-is (c.in-Err-NotStore.ensures.fault told) in
    let says = rw (c.in-Err-NotStore.file-is, c.in-Err-NotStore.at-is) at c.explain.ensures.says in
    record {
      grows = record {
        grows = λ stack opened. not_grown standing stack _ opened.stands_for (fails opened.told);
        grown = λ stack opened is. not_grown standing stack _ opened.stands_for (fails opened.told);
        grow_survives = λ stack opened. not_grown standing stack _ opened.stands_for (fails opened.told);
        grow_in_turn = λ stack opened. not_grown standing stack _ opened.stands_for (fails opened.told);
        ungrown = λ misfit opened. record {
          unopened = c.explain.ensures.status;
          unsaid = λ isnt. says_nothing g.S.Site (opens.NotStore c.in-Err-NotStore.file c.in-Err-NotStore.at) c.explain.result c.grow.new.site c.explain.new.site says isnt ∙ c.grow.ensures.writes.as_logged;
          opens_nothing = looked_then_talked g.S.Site _ c.args.site.now c.grow.new.site c.explain.new.site (c.grow.ensures.untouched opened.told misfit opened.fails) c.explain.ensures.talks;
        };
        no_growing = λ is.
            ungrown_says g.S.Site c.in-Err-NotStore.file c.in-Err-NotStore.at c.explain.result c.args.site.now c.grow.new.site c.explain.new.site c.grow.ensures.writes.calls c.grow.ensures.writes.as_logged fails says is;
        grow_status = unopened_grow c.explain.result c.explain.ensures.status;
        grow_completes = λ stack opened no_disk no_show. not_grown standing stack _ opened.stands_for (fails opened.told);
      };
      looks = λ is.
          looked_then_talked g.S.Site _ c.args.site.now c.grow.new.site c.explain.new.site
          (c.in-Err-NotStore.ensures.wrote_nothing _ _ (ap Err c.in-Err-NotStore.field-0-is)) c.explain.ensures.talks;
      disk_fault = λ is. absurd (unmigrated_disk g.S.Site _ _ c.explain.result _ _ c.explain.ensures.says is);
      show_fault = λ is. absurd ((unopened_apart c.explain.result c.explain.ensures.status).show is);
      stops = unmigrated_stops c.explain.result _ _ _ (not_disk_grown c.in-Err-NotStore.field-0 _ _ (misfit_isnt_disk c.in-Err-NotStore.field-0 _ _ c.in-Err-NotStore.field-0-is) c.in-Err-NotStore.ensures.counted) c.explain.ensures.counted;
      calls = calls_then g.S.Site c.args.site.now c.grow.new.site c.explain.new.site c.grow.ensures.writes.calls c.explain.ensures.talks.calls;
    }

pub returns-in-Err-Halt-Disk : goal.returns-in-Err-Halt-Disk
returns-in-Err-Halt-Disk g c = record {
  grows = record {
    grows = λ stack opened. (ends_apart ends.DiskFault ends.NotStore refl, reply_none _ ends.DiskFault (g.S.Site.log c.args.site.now) (g.S.Site.log c.grow.new.site) (ends_apart ends.DiskFault ends.Done refl) c.grow.ensures.writes.as_logged);
    grown = λ stack opened is. absurd (⊎_elim (ends_apart ends.DiskFault ends.Done refl) (ends_apart ends.DiskFault ends.ShowFault refl) is);
    grow_survives = λ stack opened. while_grown g.S.Site stack c.args.site.now c.grow.new.site opened.stands_for (c.grow.ensures.any_moment opened.told) c.grow.ensures.writes;
    grow_in_turn = λ stack opened. grown_in_turn g.S.Site stack c.args.site.now c.grow.new.site opened.stands_for (while_grown g.S.Site stack c.args.site.now c.grow.new.site opened.stands_for (c.grow.ensures.any_moment opened.told) c.grow.ensures.writes);
    ungrown = λ misfit opened. record {
      unopened = inr (inl refl);
      unsaid = λ isnt. c.grow.ensures.writes.as_logged;
      opens_nothing = only_looked g.S.Site c.args.site.now c.grow.new.site (c.grow.ensures.untouched opened.told misfit opened.fails);
    };
    no_growing = λ is. absurd (ends_apart ends.DiskFault ends.NotStore refl is);
    grow_status = inr (inr (inl refl));
    grow_completes = λ stack opened no_disk no_show. absurd (no_disk (c.in-Err-Halt-Disk.ensures.failed (ap Err (c.in-Err-Halt-Disk.field-0-is ∙ ap opens.Halt c.in-Err-Halt-Disk.field-0-0-is))));
  };
  looks = λ is. absurd (ends_apart ends.DiskFault ends.NotStore refl is);
  disk_fault = λ is. c.in-Err-Halt-Disk.ensures.failed (ap Err (c.in-Err-Halt-Disk.field-0-is ∙ ap opens.Halt c.in-Err-Halt-Disk.field-0-0-is));
  show_fault = λ is. absurd (ends_apart ends.DiskFault ends.ShowFault refl is);
  stops = disk_stops_growing c.in-Err-Halt-Disk.field-0 _ _ c.in-Err-Halt-Disk.ensures.counted;
  calls = c.grow.ensures.writes.calls;
}

pub returns-in-Err-Halt-Memory : goal.returns-in-Err-Halt-Memory
returns-in-Err-Halt-Memory g c = record {
  grows = record {
    grows = λ stack opened. (ends_apart ends.Memory ends.NotStore refl, reply_none _ ends.Memory (g.S.Site.log c.args.site.now) (g.S.Site.log c.grow.new.site) memory_undone c.grow.ensures.writes.as_logged);
    grown = λ stack opened is. absurd (⊎_elim memory_undone (ends_apart ends.Memory ends.ShowFault refl) is);
    grow_survives = λ stack opened. while_grown g.S.Site stack c.args.site.now c.grow.new.site opened.stands_for (c.grow.ensures.any_moment opened.told) c.grow.ensures.writes;
    grow_in_turn = λ stack opened. grown_in_turn g.S.Site stack c.args.site.now c.grow.new.site opened.stands_for (while_grown g.S.Site stack c.args.site.now c.grow.new.site opened.stands_for (c.grow.ensures.any_moment opened.told) c.grow.ensures.writes);
    ungrown = λ misfit opened. record {
      unopened = inr (inr refl);
      unsaid = λ isnt. c.grow.ensures.writes.as_logged;
      opens_nothing = only_looked g.S.Site c.args.site.now c.grow.new.site (c.grow.ensures.untouched opened.told misfit opened.fails);
    };
    no_growing = λ is. absurd (ends_apart ends.Memory ends.NotStore refl is);
    grow_status = inr (inr (inr (inr refl)));
    grow_completes = λ stack opened no_disk no_show. inr refl;
  };
  looks = λ is. absurd (ends_apart ends.Memory ends.NotStore refl is);
  disk_fault = λ is. absurd (ends_apart ends.Memory ends.DiskFault refl is);
  show_fault = λ is. absurd (ends_apart ends.Memory ends.ShowFault refl is);
  stops = stops_at_none _ _ _ _ _ (not_disk_grown c.in-Err-Halt-Memory.field-0 _ _ (memory_isnt_disk c.in-Err-Halt-Memory.field-0 (c.in-Err-Halt-Memory.field-0-is ∙ ap opens.Halt c.in-Err-Halt-Memory.field-0-0-is)) c.in-Err-Halt-Memory.ensures.counted);
  calls = c.grow.ensures.writes.calls;
}
