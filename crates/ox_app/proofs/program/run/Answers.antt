use Rattle.std.proofs.Common.{◌∙◌, ⊎_elim, List, ℕ, ap, inl, inr, refl, subst, sym}
use Rattle.std.specs.Prelude.{Err, Ok}
use Rattle.ox_outside.specs.Log.{Grows}
use Rattle.ox_outside.proofs.Log.{grows_weaker}
use Rattle.ox_model.specs.Machine.{empty_machine, stack_of}
use Rattle.ox_model.specs.Replies.{after_on, replies, replies_on}
use Rattle.ox_sat.specs.Profiles.{profile_named}
use Rattle.ox_sat.specs.declared.profiles.Profile.{Profile}
use Rattle.ox_sat.specs.declared.profiles.ProfileName.{ProfileName}
use Rattle.ox_pieces.proofs.StoodFiles.{none_led}
use Rattle.ox_app.specs.Drill.{RunsDrill, told_line}
use Rattle.ox_app.specs.Fold.{fold_depth}
use Rattle.ox_app.specs.Headline.{RunsFeed, StopsBefore, stack_after}
use Rattle.ox_app.specs.Init.{MakesFirst}
use Rattle.ox_app.specs.Query.{query_body}
use Rattle.ox_app.specs.Promises.{Serves}
use Rattle.ox_app.specs.Serve.{DoorFails}
use Rattle.ox_app.specs.Show.{DiskFails, EndsAtFault, EndsDone, HearFails, ShowFails, ShowsText}
use Rattle.ox_app.specs.Status.{IsFoldStatus, status_of}
use Rattle.ox_app.specs.Talks.{EndsTalk, RunsTalk, follower_party, leader_party}
use Rattle.ox_app.specs.declared.status.Status.{Status}
use Rattle.ox_app.proofs.AnyRuns.{served_in_turn}
use Rattle.ox_app.proofs.Done.{fold_done, fold_ends, not_folded, path_same, text_done}
use Rattle.ox_app.proofs.Drilling.{lengths_same}
use Rattle.ox_app.proofs.FreshIndexing.{ends_done, fold_same, grows_alike, grows_stops_alike, init_same, leaves_alike, made_same, runs_in_turn}
use Rattle.ox_outside.proofs.Counts.{no_fault_yet}
use Rattle.ox_app.proofs.Images.{talked_old}
use Rattle.ox_app.proofs.Opening.{ends_run}
use Rattle.ox_app.proofs.OtherWords.{no_opening, no_reading, other_words, unknown_opens}
use Rattle.ox_app.proofs.Serving.{grows_of_machine, serving_of_machine, turns_same}
use Rattle.ox_app.proofs.Settled.{said_of_each}
use Rattle.ox_app.proofs.Statuses.{apply_refuses, ends_apart, init_refuses, migrate_done, migrate_refuses, not_apply, not_init, not_migrate, not_query, not_serve, query_refuses, serve_done, serve_refuses}
use Rattle.ox_app.proofs.Stops.{said_stops, status_stops}
use Rattle.ox_app.proofs.TalkEnds.{follow_done, follow_otherwise, follows_in_turn, lead_done, lead_otherwise, not_talk, talk_refuses, talk_stops}
use Rattle.ox_app.specs.declared.status.Status.TheVariants as ends
use Rattle.ox_app.proofs.program.run.Goals as goal

-- ---- `fold`
pub returns-in-Fold : goal.returns-in-Fold
returns-in-Fold g c = record {
  folds = λ name words. let old = g.S.Site.log c.args.site.now in
      let new = g.S.Site.log c.fold.new.site in
      let machine = empty_machine (profile_named name) fold_depth in
      let same = c.profile_of.ensures.value ∙ ap profile_named (fold_same c.in-Fold.name name (sym c.in-Fold.ensures ∙ words)) in
      let told : Grows (RunsFeed (replies_on (stack_of machine)) (status_of c.fold.result)) old new =
      subst (λ (p : Profile). Grows (RunsFeed (replies_on (stack_of (empty_machine p fold_depth))) (status_of c.fold.result)) old new) same c.fold.ensures.told in
      record {
        folds =
            grows_alike machine c.status.result old new
            (subst (λ (s : Status). Grows (RunsFeed (replies_on (stack_of machine)) s) old new) (sym c.status.ensures) told);
        fold_status = subst IsFoldStatus (sym c.status.ensures) (fold_ends c.fold.result c.fold.ensures.no_disk_fault);
        fold_completes = λ no_hear no_show.
            subst (λ (s : Status). Grows (EndsDone s) old new) (sym c.status.ensures)
            (grows_weaker (RunsFeed (replies_on (stack_of machine)) (status_of c.fold.result)) (EndsDone (status_of c.fold.result)) old new
            (fold_done (replies_on (stack_of machine)) c.fold.result (HearFails g.S.Site c.args.site.now c.fold.new.site) (ShowFails g.S.Site c.args.site.now c.fold.new.site)
            c.fold.ensures.no_disk_fault c.fold.ensures.hear_fault c.fold.ensures.show_fault no_hear no_show) told);
      };
  applies = λ words. absurd (other_words c.in-Fold.ensures words refl);
  survives = λ words. absurd (other_words c.in-Fold.ensures words refl);
  inits = λ name depth fits words. absurd (other_words c.in-Fold.ensures words refl);
  not_empty = λ is. absurd ((not_folded c.fold.result c.status.result c.status.ensures c.fold.ensures.no_disk_fault).not_empty is);
  only_files = λ told is. absurd ((not_folded c.fold.result c.status.result c.status.ensures c.fold.ensures.no_disk_fault).not_empty is);
  drills = λ n fits words. absurd (other_words c.in-Fold.ensures words refl);
  drill_survives = λ told n fits words. absurd (other_words c.in-Fold.ensures words refl);
  drill_status = λ n fits words. absurd (other_words c.in-Fold.ensures words refl);
  drill_completes = λ told n fits words. absurd (other_words c.in-Fold.ensures words refl);
  migrates = λ words. absurd (other_words c.in-Fold.ensures words refl);
  migrated = λ words. absurd (other_words c.in-Fold.ensures words refl);
  migrate_survives = λ words. absurd (other_words c.in-Fold.ensures words refl);
  unmigrated = λ words. absurd (other_words c.in-Fold.ensures words refl);
  migrate_unsaid = λ words. absurd (other_words c.in-Fold.ensures words refl);
  migrates_nothing = λ words. absurd (other_words c.in-Fold.ensures words refl);
  no_old_store = λ words is. absurd ((not_folded c.fold.result c.status.result c.status.ensures c.fold.ensures.no_disk_fault).not_store is);
  old_command = λ is. absurd ((not_folded c.fold.result c.status.result c.status.ensures c.fold.ensures.no_disk_fault).old is);
  migrate_memory = λ words. absurd (other_words c.in-Fold.ensures words refl);
  migrate_status = λ words. absurd (other_words c.in-Fold.ensures words refl);
  migrate_completes = λ words. absurd (other_words c.in-Fold.ensures words refl);
  grows = λ words. absurd (other_words words c.in-Fold.ensures refl);
  queries = λ path words. absurd (other_words c.in-Fold.ensures words refl);
  serves = λ turns fits words. absurd (other_words c.in-Fold.ensures words refl);
  door_fault = λ is. absurd ((not_folded c.fold.result c.status.result c.status.ensures c.fold.ensures.no_disk_fault).door is);
  leads = λ words. absurd (other_words words c.in-Fold.ensures refl);
  follows = λ words. absurd (other_words words c.in-Fold.ensures refl);
  follow_survives = λ words. absurd (other_words words c.in-Fold.ensures refl);
  unopened = λ opening. absurd (no_opening c.in-Fold.ensures (refl, refl, refl, refl, refl) opening);
  not_store = λ no_migrate no_grow no_lead no_follow is. absurd ((not_folded c.fold.result c.status.result c.status.ensures c.fold.ensures.no_disk_fault).not_store is);
  usage = λ unknown. absurd (unknown.no_fold c.in-Fold.name c.in-Fold.ensures);
  usage_status = λ unknown. absurd (unknown.no_fold c.in-Fold.name c.in-Fold.ensures);
  no_image = λ either. talked_old g.S.Site _ c.args.site.now c.fold.new.site c.fold.ensures.talks;
  disk_fault = λ is. absurd ((not_folded c.fold.result c.status.result c.status.ensures c.fold.ensures.no_disk_fault).disk is);
  hear_fault = λ is. c.fold.ensures.hear_fault ((ends_run c.fold.result).hear (sym c.status.ensures ∙ is));
  show_fault = λ is. c.fold.ensures.show_fault ((ends_run c.fold.result).show (sym c.status.ensures ∙ is));
  stops = subst (λ (s : Status). EndsAtFault s (g.S.Site.counts c.args.site.now) (g.S.Site.counts c.fold.new.site)) (sym c.status.ensures)
      (status_stops c.fold.result _ _ _ (no_fault_yet (g.S.Site.counts c.args.site.now)) c.fold.ensures.counted);
  calls = c.fold.ensures.talks.calls;
}

-- ---- `init`
pub returns-in-Init : goal.returns-in-Init
returns-in-Init g c = record {
  folds = λ name words. absurd (other_words words c.in-Init.ensures.1 refl);
  applies = λ words. absurd (other_words words c.in-Init.ensures.1 refl);
  survives = λ words. absurd (other_words words c.in-Init.ensures.1 refl);
  inits = λ name depth fits words. let same = init_same c.in-Init.name name c.in-Init.depth depth c.in-Init.ensures.0 fits (sym c.in-Init.ensures.1 ∙ words) in
      record {
        inits = c.init.ensures.shows;
        made = λ told status.
            let made = c.init.ensures.made told status in
            (made.0 ∙ ap Ok (made_same c.in-Init.name name c.in-Init.depth depth same.0 same.1), made.1);
        made_before = λ told isnt.
            subst (λ (n : ProfileName). MakesFirst g.S.Site n depth c.args.site.now c.init.new.site) same.0
            (subst (λ (d : ℕ). MakesFirst g.S.Site c.in-Init.name d c.args.site.now c.init.new.site) same.1
            (c.init.ensures.made_before told isnt));
        refuses_files = c.init.ensures.refuses;
        spares = c.init.ensures.spares;
        made_nothing = λ is. c.init.ensures.looks (inr is);
        init_status = c.init.ensures.status;
        init_completes = λ told empty no_disk no_show.
            text_done c.init.result ends.NotEmpty (DiskFails g.S.Site c.args.site.now c.init.new.site) (ShowFails g.S.Site c.args.site.now c.init.new.site)
            c.init.ensures.status (λ is. c.init.ensures.only_empty told is empty) c.init.ensures.disk_fault c.init.ensures.show_fault no_disk no_show;
      };
  not_empty = λ is. c.init.ensures.not_empty is;
  only_files = λ told is. c.init.ensures.only_empty told is;
  drills = λ n fits words. absurd (other_words c.in-Init.ensures.1 words refl);
  drill_survives = λ told n fits words. absurd (other_words c.in-Init.ensures.1 words refl);
  drill_status = λ n fits words. absurd (other_words c.in-Init.ensures.1 words refl);
  drill_completes = λ told n fits words. absurd (other_words c.in-Init.ensures.1 words refl);
  migrates = λ words. absurd (other_words c.in-Init.ensures.1 words refl);
  migrated = λ words. absurd (other_words c.in-Init.ensures.1 words refl);
  migrate_survives = λ words. absurd (other_words c.in-Init.ensures.1 words refl);
  unmigrated = λ words. absurd (other_words c.in-Init.ensures.1 words refl);
  migrate_unsaid = λ words. absurd (other_words c.in-Init.ensures.1 words refl);
  migrates_nothing = λ words. absurd (other_words c.in-Init.ensures.1 words refl);
  no_old_store = λ words is. absurd ((not_init c.init.result c.init.ensures.status).not_store is);
  old_command = λ is. absurd ((not_init c.init.result c.init.ensures.status).old is);
  migrate_memory = λ words. absurd (other_words c.in-Init.ensures.1 words refl);
  migrate_status = λ words. absurd (other_words c.in-Init.ensures.1 words refl);
  migrate_completes = λ words. absurd (other_words c.in-Init.ensures.1 words refl);
  grows = λ words. absurd (other_words words c.in-Init.ensures.1 refl);
  queries = λ path words. absurd (other_words c.in-Init.ensures.1 words refl);
  serves = λ turns fits words. absurd (other_words c.in-Init.ensures.1 words refl);
  door_fault = λ is. absurd ((not_init c.init.result c.init.ensures.status).door is);
  leads = λ words. absurd (other_words words c.in-Init.ensures.1 refl);
  follows = λ words. absurd (other_words words c.in-Init.ensures.1 refl);
  follow_survives = λ words. absurd (other_words words c.in-Init.ensures.1 refl);
  unopened = λ opening. absurd (no_opening c.in-Init.ensures.1 (refl, refl, refl, refl, refl) opening);
  not_store = λ no_migrate no_grow no_lead no_follow is. absurd ((not_init c.init.result c.init.ensures.status).not_store is);
  usage = λ unknown. absurd (unknown.no_init c.in-Init.name c.in-Init.depth c.in-Init.ensures.0 c.in-Init.ensures.1);
  usage_status = λ unknown. absurd (unknown.no_init c.in-Init.name c.in-Init.depth c.in-Init.ensures.0 c.in-Init.ensures.1);
  no_image = ⊎_elim (λ reading. absurd (no_reading c.in-Init.ensures.1 (refl, refl, refl) reading))
      (λ refuses. c.init.ensures.looks (inl (init_refuses c.init.result c.init.ensures.status refuses)));
  disk_fault = λ is. c.init.ensures.disk_fault is;
  hear_fault = λ is. absurd ((not_init c.init.result c.init.ensures.status).hear is);
  show_fault = λ is. c.init.ensures.show_fault is;
  stops = c.init.ensures.stops;
  calls = c.init.ensures.calls;
}

-- ---- `apply`
pub returns-in-Apply : goal.returns-in-Apply
returns-in-Apply g c = record {
  folds = λ name words. absurd (other_words words c.in-Apply.ensures refl);
  applies = λ words. record {
    applies = λ machine opened.
        let feeds = c.apply.ensures.feeds opened.told (stack_of machine) opened.stands_for in
        (feeds.0, grows_alike machine c.apply.result (g.S.Site.log c.args.site.now) (g.S.Site.log c.apply.new.site) feeds.1);
    in_turn = λ machine opened.
        runs_in_turn g.S.Site machine c.args.site.now c.apply.new.site opened.stands_for (c.apply.ensures.survives opened.told (stack_of machine) opened.stands_for);
    out_of_memory = λ machine opened is.
        said_of_each g.S.Site g.met.S.Site.logs_now (StopsBefore (replies machine) (stack_after machine)) (g.S.Site.log c.args.site.now) c.apply.new.site
        (c.apply.ensures.settled opened.told is)
        (grows_stops_alike machine (g.S.Site.seen c.apply.new.site) (g.S.Site.log c.args.site.now) (g.S.Site.log c.apply.new.site)
        (c.apply.ensures.out_of_memory opened.told (stack_of machine) opened.stands_for is));
    stack_feeds = λ stack opened. c.apply.ensures.feeds opened.told stack opened.stands_for;
    stack_survives = λ stack opened. c.apply.ensures.survives opened.told stack opened.stands_for;
    stack_out_of_memory = λ stack opened is.
        said_of_each g.S.Site g.met.S.Site.logs_now (StopsBefore (replies_on stack) (after_on stack)) (g.S.Site.log c.args.site.now) c.apply.new.site
        (c.apply.ensures.settled opened.told is) (c.apply.ensures.out_of_memory opened.told stack opened.stands_for is);
    applies_logged = c.apply.ensures.logged;
    apply_status = c.apply.ensures.status;
    apply_completes = λ stack opened no_disk no_hear no_show.
        let feeds = c.apply.ensures.feeds opened.told stack opened.stands_for in
        grows_weaker (RunsFeed (replies_on stack) c.apply.result) (EndsDone c.apply.result) (g.S.Site.log c.args.site.now) (g.S.Site.log c.apply.new.site)
        (λ events runs. ends_done (replies_on stack) c.apply.result
        (DiskFails g.S.Site c.args.site.now c.apply.new.site)
        (HearFails g.S.Site c.args.site.now c.apply.new.site)
        (ShowFails g.S.Site c.args.site.now c.apply.new.site)
        events c.apply.ensures.status feeds.0 c.apply.ensures.disk_fault c.apply.ensures.hear_fault c.apply.ensures.show_fault no_disk no_hear no_show runs) feeds.1;
  };
  survives = λ words machine opened. leaves_alike g.S.Site machine c.args.site.now c.apply.new.site (c.apply.ensures.survives opened.told (stack_of machine) opened.stands_for);
  inits = λ name depth fits words. absurd (other_words c.in-Apply.ensures words refl);
  not_empty = λ is. absurd ((not_apply c.apply.result c.apply.ensures.status).not_empty is);
  only_files = λ told is. absurd ((not_apply c.apply.result c.apply.ensures.status).not_empty is);
  drills = λ n fits words. absurd (other_words c.in-Apply.ensures words refl);
  drill_survives = λ told n fits words. absurd (other_words c.in-Apply.ensures words refl);
  drill_status = λ n fits words. absurd (other_words c.in-Apply.ensures words refl);
  drill_completes = λ told n fits words. absurd (other_words c.in-Apply.ensures words refl);
  migrates = λ words. absurd (other_words c.in-Apply.ensures words refl);
  migrated = λ words. absurd (other_words c.in-Apply.ensures words refl);
  migrate_survives = λ words. absurd (other_words c.in-Apply.ensures words refl);
  unmigrated = λ words. absurd (other_words c.in-Apply.ensures words refl);
  migrate_unsaid = λ words. absurd (other_words c.in-Apply.ensures words refl);
  migrates_nothing = λ words. absurd (other_words c.in-Apply.ensures words refl);
  no_old_store = λ words. absurd (other_words c.in-Apply.ensures words refl);
  old_command = λ is. absurd ((not_apply c.apply.result c.apply.ensures.status).old is);
  migrate_memory = λ words. absurd (other_words c.in-Apply.ensures words refl);
  migrate_status = λ words. absurd (other_words c.in-Apply.ensures words refl);
  migrate_completes = λ words. absurd (other_words c.in-Apply.ensures words refl);
  grows = λ words. absurd (other_words words c.in-Apply.ensures refl);
  queries = λ path words. absurd (other_words c.in-Apply.ensures words refl);
  serves = λ turns fits words. absurd (other_words c.in-Apply.ensures words refl);
  door_fault = λ is. absurd ((not_apply c.apply.result c.apply.ensures.status).door is);
  leads = λ words. absurd (other_words words c.in-Apply.ensures refl);
  follows = λ words. absurd (other_words words c.in-Apply.ensures refl);
  follow_survives = λ words. absurd (other_words words c.in-Apply.ensures refl);
  unopened = λ opening misfit stood. record {
    unopened = c.apply.ensures.unopened stood.told misfit stood.fails;
    unsaid = c.apply.ensures.unsaid stood.told misfit stood.fails;
    opens_nothing = c.apply.ensures.looks stood.told misfit stood.fails;
  };
  not_store = λ no_migrate no_grow no_lead no_follow is. c.apply.ensures.not_store is;
  usage = λ unknown. absurd (unknown.no_apply c.in-Apply.ensures);
  usage_status = λ unknown. absurd (unknown.no_apply c.in-Apply.ensures);
  no_image = ⊎_elim (λ reading. absurd (no_reading c.in-Apply.ensures (refl, refl, refl) reading))
      (λ refuses. c.apply.ensures.no_store (apply_refuses c.apply.result c.apply.ensures.status refuses));
  disk_fault = λ is. c.apply.ensures.disk_fault is;
  hear_fault = λ is. c.apply.ensures.hear_fault is;
  show_fault = λ is. c.apply.ensures.show_fault is;
  stops = c.apply.ensures.stops;
  calls = c.apply.ensures.calls;
}

-- ---- `query`
pub returns-in-Query : goal.returns-in-Query
returns-in-Query g c = record {
  folds = λ name words. absurd (other_words words c.in-Query.ensures refl);
  applies = λ words. absurd (other_words words c.in-Query.ensures refl);
  survives = λ words. absurd (other_words words c.in-Query.ensures refl);
  inits = λ name depth fits words. absurd (other_words words c.in-Query.ensures refl);
  not_empty = λ is. absurd ((not_query c.query.result c.query.ensures.status).not_empty is);
  only_files = λ told is. absurd ((not_query c.query.result c.query.ensures.status).not_empty is);
  drills = λ n fits words. absurd (other_words words c.in-Query.ensures refl);
  drill_survives = λ told n fits words. absurd (other_words words c.in-Query.ensures refl);
  drill_status = λ n fits words. absurd (other_words words c.in-Query.ensures refl);
  drill_completes = λ told n fits words. absurd (other_words words c.in-Query.ensures refl);
  migrates = λ words. absurd (other_words words c.in-Query.ensures refl);
  migrated = λ words. absurd (other_words words c.in-Query.ensures refl);
  migrate_survives = λ words. absurd (other_words words c.in-Query.ensures refl);
  unmigrated = λ words. absurd (other_words words c.in-Query.ensures refl);
  migrate_unsaid = λ words. absurd (other_words words c.in-Query.ensures refl);
  migrates_nothing = λ words. absurd (other_words words c.in-Query.ensures refl);
  no_old_store = λ words. absurd (other_words words c.in-Query.ensures refl);
  old_command = λ is. absurd ((not_query c.query.result c.query.ensures.status).old is);
  migrate_memory = λ words. absurd (other_words words c.in-Query.ensures refl);
  migrate_status = λ words. absurd (other_words words c.in-Query.ensures refl);
  migrate_completes = λ words. absurd (other_words words c.in-Query.ensures refl);
  grows = λ words. absurd (other_words words c.in-Query.ensures refl);
  queries = λ path words. let same = path_same c.in-Query.path.now path (sym c.in-Query.ensures ∙ words) in
      record {
        queries = λ stack opened.
            let shows = c.query.ensures.shows opened.told stack opened.stands_for in
            (shows.0, subst (λ (p : List ℕ). ShowsText g.S.Site (query_body p stack) c.query.result c.args.site.now c.query.new.site) same shows.1);
        query_status = c.query.ensures.status;
        query_completes = λ stack opened no_disk no_show.
            text_done c.query.result ends.NotStore (DiskFails g.S.Site c.args.site.now c.query.new.site) (ShowFails g.S.Site c.args.site.now c.query.new.site)
            c.query.ensures.status (c.query.ensures.shows opened.told stack opened.stands_for).0 c.query.ensures.disk_fault c.query.ensures.show_fault no_disk no_show;
      };
  serves = λ turns fits words. absurd (other_words c.in-Query.ensures words refl);
  door_fault = λ is. absurd ((not_query c.query.result c.query.ensures.status).door is);
  leads = λ words. absurd (other_words words c.in-Query.ensures refl);
  follows = λ words. absurd (other_words words c.in-Query.ensures refl);
  follow_survives = λ words. absurd (other_words words c.in-Query.ensures refl);
  unopened = λ opening misfit stood. record {
    unopened = c.query.ensures.unopened stood.told misfit stood.fails;
    unsaid = c.query.ensures.unsaid stood.told misfit stood.fails;
    opens_nothing = c.query.ensures.looks;
  };
  not_store = λ no_migrate no_grow no_lead no_follow is. c.query.ensures.not_store is;
  usage = λ unknown. absurd (unknown.no_query c.in-Query.path.now c.in-Query.ensures);
  usage_status = λ unknown. absurd (unknown.no_query c.in-Query.path.now c.in-Query.ensures);
  no_image = λ either. c.query.ensures.looks;
  disk_fault = λ is. c.query.ensures.disk_fault is;
  hear_fault = λ is. absurd ((not_query c.query.result c.query.ensures.status).hear is);
  show_fault = λ is. c.query.ensures.show_fault is;
  stops = c.query.ensures.stops;
  calls = c.query.ensures.calls;
}

-- ---- `serve`
pub returns-in-Serve : goal.returns-in-Serve
returns-in-Serve g c = record {
  folds = λ name words. absurd (other_words words c.in-Serve.ensures.1 refl);
  applies = λ words. absurd (other_words words c.in-Serve.ensures.1 refl);
  survives = λ words. absurd (other_words words c.in-Serve.ensures.1 refl);
  inits = λ name depth fits words. absurd (other_words words c.in-Serve.ensures.1 refl);
  not_empty = λ is. absurd ((not_serve c.serve.result c.serve.ensures.status).not_empty is);
  only_files = λ told is. absurd ((not_serve c.serve.result c.serve.ensures.status).not_empty is);
  drills = λ n fits words. absurd (other_words words c.in-Serve.ensures.1 refl);
  drill_survives = λ told n fits words. absurd (other_words words c.in-Serve.ensures.1 refl);
  drill_status = λ n fits words. absurd (other_words words c.in-Serve.ensures.1 refl);
  drill_completes = λ told n fits words. absurd (other_words words c.in-Serve.ensures.1 refl);
  migrates = λ words. absurd (other_words words c.in-Serve.ensures.1 refl);
  migrated = λ words. absurd (other_words words c.in-Serve.ensures.1 refl);
  migrate_survives = λ words. absurd (other_words words c.in-Serve.ensures.1 refl);
  unmigrated = λ words. absurd (other_words words c.in-Serve.ensures.1 refl);
  migrate_unsaid = λ words. absurd (other_words words c.in-Serve.ensures.1 refl);
  migrates_nothing = λ words. absurd (other_words words c.in-Serve.ensures.1 refl);
  no_old_store = λ words. absurd (other_words words c.in-Serve.ensures.1 refl);
  old_command = λ is. absurd ((not_serve c.serve.result c.serve.ensures.status).old is);
  migrate_memory = λ words. absurd (other_words words c.in-Serve.ensures.1 refl);
  migrate_status = λ words. absurd (other_words words c.in-Serve.ensures.1 refl);
  migrate_completes = λ words. absurd (other_words words c.in-Serve.ensures.1 refl);
  grows = λ words. absurd (other_words words c.in-Serve.ensures.1 refl);
  queries = λ path words. absurd (other_words words c.in-Serve.ensures.1 refl);
  serves = λ turns fits words.
      let site = g.S.Site in
      let old = c.args.site.now in
      let new = c.serve.new.site in
      let same = turns_same c.in-Serve.turns turns c.in-Serve.ensures.0 fits (sym c.in-Serve.ensures.1 ∙ words) in
      subst (λ (n : ℕ). Serves site n c.serve.result old new) same (record {
        serves = λ machine opened.
            let serves = c.serve.ensures.serves opened.told (stack_of machine) opened.stands_for in
            (serves.0, grows_of_machine machine c.in-Serve.turns c.serve.result (site.counts old) (site.counts new) (site.log old) (site.log new) serves.1);
        serve_survives = λ machine opened. serving_of_machine machine site old new (c.serve.ensures.survives opened.told (stack_of machine) opened.stands_for);
        serve_in_turn = λ machine opened. served_in_turn site (stack_of machine) old new opened.stands_for (c.serve.ensures.survives opened.told (stack_of machine) opened.stands_for);
        stack_serves = λ stack opened. c.serve.ensures.serves opened.told stack opened.stands_for;
        stack_serve_survives = λ stack opened. c.serve.ensures.survives opened.told stack opened.stands_for;
        serves_logged = c.serve.ensures.logged;
        serve_memory = c.serve.ensures.memory;
        serve_status = c.serve.ensures.status;
        serve_completes = λ stack opened no_disk no_door no_show.
            serve_done c.serve.result (DiskFails site old new) (DoorFails site old new) (ShowFails site old new) c.serve.ensures.status
            (c.serve.ensures.serves opened.told stack opened.stands_for).0 c.serve.ensures.disk_fault c.serve.ensures.door_fault c.serve.ensures.show_fault no_disk no_door no_show;
      });
  door_fault = λ is. c.serve.ensures.door_fault is;
  leads = λ words. absurd (other_words words c.in-Serve.ensures.1 refl);
  follows = λ words. absurd (other_words words c.in-Serve.ensures.1 refl);
  follow_survives = λ words. absurd (other_words words c.in-Serve.ensures.1 refl);
  unopened = λ opening misfit stood. record {
    unopened = c.serve.ensures.unopened stood.told misfit stood.fails;
    unsaid = c.serve.ensures.unsaid stood.told misfit stood.fails;
    opens_nothing = c.serve.ensures.looks stood.told misfit stood.fails;
  };
  not_store = λ no_migrate no_grow no_lead no_follow is. c.serve.ensures.not_store is;
  usage = λ unknown. absurd (unknown.no_serve c.in-Serve.turns c.in-Serve.ensures.0 c.in-Serve.ensures.1);
  usage_status = λ unknown. absurd (unknown.no_serve c.in-Serve.turns c.in-Serve.ensures.0 c.in-Serve.ensures.1);
  no_image = ⊎_elim (λ reading. absurd (no_reading c.in-Serve.ensures.1 (refl, refl, refl) reading))
      (λ refuses. c.serve.ensures.no_store (serve_refuses c.serve.result c.serve.ensures.status refuses));
  disk_fault = λ is. c.serve.ensures.disk_fault is;
  hear_fault = λ is. absurd ((not_serve c.serve.result c.serve.ensures.status).hear is);
  show_fault = λ is. c.serve.ensures.show_fault is;
  stops = c.serve.ensures.stops;
  calls = c.serve.ensures.calls;
}

-- ---- `drill`
pub returns-in-Drill : goal.returns-in-Drill
returns-in-Drill g c = record {
  folds = λ name words. absurd (other_words words c.in-Drill.ensures.1 refl);
  applies = λ words. absurd (other_words words c.in-Drill.ensures.1 refl);
  survives = λ words. absurd (other_words words c.in-Drill.ensures.1 refl);
  inits = λ name depth fits words. absurd (other_words words c.in-Drill.ensures.1 refl);
  not_empty = λ is. c.drill.ensures.not_empty is;
  only_files = λ told is. c.drill.ensures.only_files told is;
  drills = λ n fits words isnt. let same = lengths_same c.in-Drill.n n c.in-Drill.ensures.0 fits (sym c.in-Drill.ensures.1 ∙ words) in
      subst (λ (m : ℕ). ShowsText g.S.Site (told_line m) c.drill.result c.args.site.now c.drill.new.site) same (c.drill.ensures.shows isnt);
  drill_survives = λ told n fits words. let same = lengths_same c.in-Drill.n n c.in-Drill.ensures.0 fits (sym c.in-Drill.ensures.1 ∙ words) in
      subst (λ (m : ℕ). RunsDrill g.S.Site m c.drill.result c.args.site.now c.drill.new.site) same (c.drill.ensures.runs told);
  drill_status = λ n fits words. c.drill.ensures.status;
  drill_completes = λ told n fits words empty no_disk no_show. text_done c.drill.result ends.NotEmpty (DiskFails g.S.Site c.args.site.now c.drill.new.site) (ShowFails g.S.Site c.args.site.now c.drill.new.site) c.drill.ensures.status (λ is. c.drill.ensures.only_files told is empty) c.drill.ensures.disk_fault c.drill.ensures.show_fault no_disk no_show;
  migrates = λ words. absurd (other_words c.in-Drill.ensures.1 words refl);
  migrated = λ words. absurd (other_words c.in-Drill.ensures.1 words refl);
  migrate_survives = λ words. absurd (other_words c.in-Drill.ensures.1 words refl);
  unmigrated = λ words. absurd (other_words c.in-Drill.ensures.1 words refl);
  migrate_unsaid = λ words. absurd (other_words c.in-Drill.ensures.1 words refl);
  migrates_nothing = λ words. absurd (other_words c.in-Drill.ensures.1 words refl);
  no_old_store = λ words is. absurd ((not_init c.drill.result c.drill.ensures.status).not_store is);
  old_command = λ is. absurd ((not_init c.drill.result c.drill.ensures.status).old is);
  migrate_memory = λ words. absurd (other_words c.in-Drill.ensures.1 words refl);
  migrate_status = λ words. absurd (other_words c.in-Drill.ensures.1 words refl);
  migrate_completes = λ words. absurd (other_words c.in-Drill.ensures.1 words refl);
  grows = λ words. absurd (other_words words c.in-Drill.ensures.1 refl);
  queries = λ path words. absurd (other_words c.in-Drill.ensures.1 words refl);
  serves = λ turns fits words. absurd (other_words c.in-Drill.ensures.1 words refl);
  door_fault = λ is. absurd ((not_init c.drill.result c.drill.ensures.status).door is);
  leads = λ words. absurd (other_words words c.in-Drill.ensures.1 refl);
  follows = λ words. absurd (other_words words c.in-Drill.ensures.1 refl);
  follow_survives = λ words. absurd (other_words words c.in-Drill.ensures.1 refl);
  unopened = λ opening. absurd (no_opening c.in-Drill.ensures.1 (refl, refl, refl, refl, refl) opening);
  not_store = λ no_migrate no_grow no_lead no_follow is. absurd ((not_init c.drill.result c.drill.ensures.status).not_store is);
  usage = λ unknown. absurd (unknown.no_drill c.in-Drill.n c.in-Drill.ensures.0 c.in-Drill.ensures.1);
  usage_status = λ unknown. absurd (unknown.no_drill c.in-Drill.n c.in-Drill.ensures.0 c.in-Drill.ensures.1);
  no_image = ⊎_elim (λ reading. absurd (no_reading c.in-Drill.ensures.1 (refl, refl, refl) reading))
      (λ refuses. c.drill.ensures.looks (init_refuses c.drill.result c.drill.ensures.status refuses));
  disk_fault = λ is. c.drill.ensures.disk_fault is;
  hear_fault = λ is. absurd ((not_init c.drill.result c.drill.ensures.status).hear is);
  show_fault = λ is. c.drill.ensures.show_fault is;
  stops = c.drill.ensures.stops;
  calls = c.drill.ensures.calls;
}

-- ---- `migrate`
pub returns-in-Migrate : goal.returns-in-Migrate
returns-in-Migrate g c = record {
  folds = λ name words. absurd (other_words words c.in-Migrate.ensures refl);
  applies = λ words. absurd (other_words words c.in-Migrate.ensures refl);
  survives = λ words. absurd (other_words words c.in-Migrate.ensures refl);
  inits = λ name depth fits words. absurd (other_words words c.in-Migrate.ensures refl);
  not_empty = λ is. absurd ((not_migrate c.migrate.result c.migrate.ensures.status).not_empty is);
  only_files = λ told is. absurd ((not_migrate c.migrate.result c.migrate.ensures.status).not_empty is);
  drills = λ n fits words. absurd (other_words words c.in-Migrate.ensures refl);
  drill_survives = λ told n fits words. absurd (other_words words c.in-Migrate.ensures refl);
  drill_status = λ n fits words. absurd (other_words words c.in-Migrate.ensures refl);
  drill_completes = λ told n fits words. absurd (other_words words c.in-Migrate.ensures refl);
  migrates = λ words stack commands opened. c.migrate.ensures.shows opened.told stack commands opened.stands_for;
  migrated = λ words stack commands opened is. c.migrate.ensures.migrated opened.told stack commands opened.stands_for is;
  migrate_survives = λ words stack commands opened. c.migrate.ensures.survives opened.told stack commands opened.stands_for;
  unmigrated = λ words fault opened. c.migrate.ensures.unmigrated opened.told fault opened.fails;
  migrate_unsaid = λ words fault opened store old. c.migrate.ensures.unsaid opened.told fault opened.fails store old;
  migrates_nothing = λ words fault opened. c.migrate.ensures.spares opened.told fault opened.fails;
  no_old_store = λ words is. c.migrate.ensures.not_store is;
  old_command = λ is. c.migrate.ensures.old_command is;
  migrate_memory = λ words is. c.migrate.ensures.looks (inr (inr is));
  migrate_status = λ words. c.migrate.ensures.status;
  migrate_completes = λ words stack commands opened no_disk no_show. let shows = c.migrate.ensures.shows opened.told stack commands opened.stands_for in
      migrate_done c.migrate.result (DiskFails g.S.Site c.args.site.now c.migrate.new.site) (ShowFails g.S.Site c.args.site.now c.migrate.new.site) c.migrate.ensures.status shows.0 shows.1 c.migrate.ensures.disk_fault c.migrate.ensures.show_fault no_disk no_show;
  grows = λ words. absurd (other_words words c.in-Migrate.ensures refl);
  queries = λ path words. absurd (other_words c.in-Migrate.ensures words refl);
  serves = λ turns fits words. absurd (other_words c.in-Migrate.ensures words refl);
  door_fault = λ is. absurd ((not_migrate c.migrate.result c.migrate.ensures.status).door is);
  leads = λ words. absurd (other_words words c.in-Migrate.ensures refl);
  follows = λ words. absurd (other_words words c.in-Migrate.ensures refl);
  follow_survives = λ words. absurd (other_words words c.in-Migrate.ensures refl);
  unopened = λ opening. absurd (no_opening c.in-Migrate.ensures (refl, refl, refl, refl, refl) opening);
  not_store = λ no_migrate no_grow no_lead no_follow is. absurd (no_migrate c.in-Migrate.ensures);
  usage = λ unknown. absurd (unknown.no_migrate c.in-Migrate.ensures);
  usage_status = λ unknown. absurd (unknown.no_migrate c.in-Migrate.ensures);
  no_image = ⊎_elim (λ reading. absurd (no_reading c.in-Migrate.ensures (refl, refl, refl) reading))
      (λ refuses. c.migrate.ensures.looks (migrate_refuses c.migrate.result c.migrate.ensures.status refuses));
  disk_fault = λ is. c.migrate.ensures.disk_fault is;
  hear_fault = λ is. absurd ((not_migrate c.migrate.result c.migrate.ensures.status).hear is);
  show_fault = λ is. c.migrate.ensures.show_fault is;
  stops = c.migrate.ensures.stops;
  calls = c.migrate.ensures.calls;
}

-- ---- `grow`
pub returns-in-Grow : goal.returns-in-Grow
returns-in-Grow g c = record {
  folds = λ name words. absurd (other_words words c.in-Grow.ensures refl);
  applies = λ words. absurd (other_words words c.in-Grow.ensures refl);
  survives = λ words. absurd (other_words words c.in-Grow.ensures refl);
  inits = λ name depth fits words. absurd (other_words words c.in-Grow.ensures refl);
  not_empty = λ is. absurd ((not_query c.grow.result c.grow.ensures.grows.grow_status).not_empty is);
  only_files = λ told is. absurd ((not_query c.grow.result c.grow.ensures.grows.grow_status).not_empty is);
  drills = λ n fits words. absurd (other_words words c.in-Grow.ensures refl);
  drill_survives = λ told n fits words. absurd (other_words words c.in-Grow.ensures refl);
  drill_status = λ n fits words. absurd (other_words words c.in-Grow.ensures refl);
  drill_completes = λ told n fits words. absurd (other_words words c.in-Grow.ensures refl);
  migrates = λ words. absurd (other_words words c.in-Grow.ensures refl);
  migrated = λ words. absurd (other_words words c.in-Grow.ensures refl);
  migrate_survives = λ words. absurd (other_words words c.in-Grow.ensures refl);
  unmigrated = λ words. absurd (other_words words c.in-Grow.ensures refl);
  migrate_unsaid = λ words. absurd (other_words words c.in-Grow.ensures refl);
  migrates_nothing = λ words. absurd (other_words words c.in-Grow.ensures refl);
  no_old_store = λ words. absurd (other_words words c.in-Grow.ensures refl);
  old_command = λ is. absurd ((not_query c.grow.result c.grow.ensures.grows.grow_status).old is);
  migrate_memory = λ words. absurd (other_words words c.in-Grow.ensures refl);
  migrate_status = λ words. absurd (other_words words c.in-Grow.ensures refl);
  migrate_completes = λ words. absurd (other_words words c.in-Grow.ensures refl);
  grows = λ words. c.grow.ensures.grows;
  queries = λ path words. absurd (other_words c.in-Grow.ensures words refl);
  serves = λ turns fits words. absurd (other_words c.in-Grow.ensures words refl);
  door_fault = λ is. absurd ((not_query c.grow.result c.grow.ensures.grows.grow_status).door is);
  leads = λ words. absurd (other_words words c.in-Grow.ensures refl);
  follows = λ words. absurd (other_words words c.in-Grow.ensures refl);
  follow_survives = λ words. absurd (other_words words c.in-Grow.ensures refl);
  unopened = λ opening. absurd (no_opening c.in-Grow.ensures (refl, refl, refl, refl, refl) opening);
  not_store = λ no_migrate no_grow no_lead no_follow is. absurd (no_grow c.in-Grow.ensures);
  usage = λ unknown. absurd (unknown.no_grow c.in-Grow.ensures);
  usage_status = λ unknown. absurd (unknown.no_grow c.in-Grow.ensures);
  no_image = ⊎_elim (λ reading. absurd (no_reading c.in-Grow.ensures (refl, refl, refl) reading))
      (λ refuses. c.grow.ensures.looks (query_refuses c.grow.result c.grow.ensures.grows.grow_status refuses));
  disk_fault = λ is. c.grow.ensures.disk_fault is;
  hear_fault = λ is. absurd ((not_query c.grow.result c.grow.ensures.grows.grow_status).hear is);
  show_fault = λ is. c.grow.ensures.show_fault is;
  stops = c.grow.ensures.stops;
  calls = c.grow.ensures.calls;
}

-- ---- `lead`
pub returns-in-Lead : goal.returns-in-Lead
returns-in-Lead g c = record {
  folds = λ name words. absurd (other_words words c.in-Lead.ensures refl);
  applies = λ words. absurd (other_words words c.in-Lead.ensures refl);
  survives = λ words. absurd (other_words words c.in-Lead.ensures refl);
  inits = λ name depth fits words. absurd (other_words words c.in-Lead.ensures refl);
  not_empty = λ is. absurd ((not_talk c.lead.result (lead_otherwise c.lead.result c.lead.ensures.status)).not_empty is);
  only_files = λ told is. absurd ((not_talk c.lead.result (lead_otherwise c.lead.result c.lead.ensures.status)).not_empty is);
  drills = λ n fits words. absurd (other_words words c.in-Lead.ensures refl);
  drill_survives = λ told n fits words. absurd (other_words words c.in-Lead.ensures refl);
  drill_status = λ n fits words. absurd (other_words words c.in-Lead.ensures refl);
  drill_completes = λ told n fits words. absurd (other_words words c.in-Lead.ensures refl);
  migrates = λ words. absurd (other_words words c.in-Lead.ensures refl);
  migrated = λ words. absurd (other_words words c.in-Lead.ensures refl);
  migrate_survives = λ words. absurd (other_words words c.in-Lead.ensures refl);
  unmigrated = λ words. absurd (other_words words c.in-Lead.ensures refl);
  migrate_unsaid = λ words. absurd (other_words words c.in-Lead.ensures refl);
  migrates_nothing = λ words. absurd (other_words words c.in-Lead.ensures refl);
  no_old_store = λ words. absurd (other_words words c.in-Lead.ensures refl);
  old_command = λ is. absurd ((not_talk c.lead.result (lead_otherwise c.lead.result c.lead.ensures.status)).old is);
  migrate_memory = λ words. absurd (other_words words c.in-Lead.ensures refl);
  migrate_status = λ words. absurd (other_words words c.in-Lead.ensures refl);
  migrate_completes = λ words. absurd (other_words words c.in-Lead.ensures refl);
  grows = λ words. absurd (other_words words c.in-Lead.ensures refl);
  queries = λ path words. absurd (other_words words c.in-Lead.ensures refl);
  serves = λ turns fits words. absurd (other_words words c.in-Lead.ensures refl);
  door_fault = λ is. absurd ((not_talk c.lead.result (lead_otherwise c.lead.result c.lead.ensures.status)).door is);
  leads = λ words. record {
    leads = λ leader there. c.lead.ensures.leads there.told leader there.leads;
    lead_unopened = λ misfit none. let opens = c.lead.ensures.unopened none.told misfit none.fails in
        record { unopened = opens.0; unsaid = λ isnt. opens.1; opens_nothing = c.lead.ensures.looks };
    lead_unsaid = c.lead.ensures.not_store;
    lead_status = c.lead.ensures.status;
    lead_completes = λ leader there no_disk no_hear no_show.
        let leads = c.lead.ensures.leads there.told leader there.leads in
        grows_weaker (RunsTalk (leader_party leader) c.lead.result) (EndsTalk c.lead.result) (g.S.Site.log c.args.site.now) (g.S.Site.log c.lead.new.site)
        (lead_done g.S.Site (leader_party leader) c.lead.result c.args.site.now c.lead.new.site leads.0 c.lead.ensures.faults no_disk no_hear no_show c.lead.ensures.status) leads.1;
  };
  follows = λ words. absurd (other_words words c.in-Lead.ensures refl);
  follow_survives = λ words. absurd (other_words words c.in-Lead.ensures refl);
  unopened = λ opening misfit stood.
      let none = none_led (g.S.Site.seen c.args.site.now) misfit stood.fails in
      let opens = c.lead.ensures.unopened stood.told none.0 none.1 in
      record { unopened = opens.0; unsaid = λ isnt. opens.1; opens_nothing = c.lead.ensures.looks };
  not_store = λ no_migrate no_grow no_lead no_follow is. absurd (no_lead c.in-Lead.ensures);
  usage = λ unknown. absurd (unknown.no_lead c.in-Lead.ensures);
  usage_status = λ unknown. absurd (unknown.no_lead c.in-Lead.ensures);
  no_image = λ either. c.lead.ensures.looks;
  disk_fault = λ is. c.lead.ensures.faults.disk (ap Err is);
  hear_fault = λ is. c.lead.ensures.faults.hear (ap Err is);
  show_fault = λ is. c.lead.ensures.faults.show (ap Err is);
  stops = talk_stops g.S.Site c.lead.result c.args.site.now c.lead.new.site c.lead.ensures.faults;
  calls = c.lead.ensures.calls;
}

-- ---- `follow`
pub returns-in-Follow : goal.returns-in-Follow
returns-in-Follow g c = record {
  folds = λ name words. absurd (other_words words c.in-Follow.ensures refl);
  applies = λ words. absurd (other_words words c.in-Follow.ensures refl);
  survives = λ words. absurd (other_words words c.in-Follow.ensures refl);
  inits = λ name depth fits words. absurd (other_words words c.in-Follow.ensures refl);
  not_empty = λ is. absurd ((not_talk c.follow.result (follow_otherwise c.follow.result c.follow.ensures.status)).not_empty is);
  only_files = λ told is. absurd ((not_talk c.follow.result (follow_otherwise c.follow.result c.follow.ensures.status)).not_empty is);
  drills = λ n fits words. absurd (other_words words c.in-Follow.ensures refl);
  drill_survives = λ told n fits words. absurd (other_words words c.in-Follow.ensures refl);
  drill_status = λ n fits words. absurd (other_words words c.in-Follow.ensures refl);
  drill_completes = λ told n fits words. absurd (other_words words c.in-Follow.ensures refl);
  migrates = λ words. absurd (other_words words c.in-Follow.ensures refl);
  migrated = λ words. absurd (other_words words c.in-Follow.ensures refl);
  migrate_survives = λ words. absurd (other_words words c.in-Follow.ensures refl);
  unmigrated = λ words. absurd (other_words words c.in-Follow.ensures refl);
  migrate_unsaid = λ words. absurd (other_words words c.in-Follow.ensures refl);
  migrates_nothing = λ words. absurd (other_words words c.in-Follow.ensures refl);
  no_old_store = λ words. absurd (other_words words c.in-Follow.ensures refl);
  old_command = λ is. absurd ((not_talk c.follow.result (follow_otherwise c.follow.result c.follow.ensures.status)).old is);
  migrate_memory = λ words. absurd (other_words words c.in-Follow.ensures refl);
  migrate_status = λ words. absurd (other_words words c.in-Follow.ensures refl);
  migrate_completes = λ words. absurd (other_words words c.in-Follow.ensures refl);
  grows = λ words. absurd (other_words words c.in-Follow.ensures refl);
  queries = λ path words. absurd (other_words words c.in-Follow.ensures refl);
  serves = λ turns fits words. absurd (other_words words c.in-Follow.ensures refl);
  door_fault = λ is. absurd ((not_talk c.follow.result (follow_otherwise c.follow.result c.follow.ensures.status)).door is);
  leads = λ words. absurd (other_words words c.in-Follow.ensures refl);
  follows = λ words. record {
    follows = λ mine there. c.follow.ensures.follows there.told mine there.stands;
    follow_in_turn = λ mine there. follows_in_turn g.S.Site mine c.args.site.now c.follow.new.site there.stands (c.follow.ensures.survives there.told mine there.stands);
    follow_unopened = λ misfit none. let opens = c.follow.ensures.unopened none.told misfit none.fails in
        record { unopened = opens.0; unsaid = λ isnt. opens.1; opens_nothing = c.follow.ensures.looks none.told misfit none.fails };
    follow_unsaid = λ is. (c.follow.ensures.not_store is).1;
    follow_status = c.follow.ensures.status;
    follow_completes = λ mine there no_disk no_hear no_show.
        let follows = c.follow.ensures.follows there.told mine there.stands in
        grows_weaker (RunsTalk (follower_party mine) c.follow.result) (EndsTalk c.follow.result) (g.S.Site.log c.args.site.now) (g.S.Site.log c.follow.new.site)
        (follow_done g.S.Site (follower_party mine) c.follow.result c.args.site.now c.follow.new.site follows.0 c.follow.ensures.faults no_disk no_hear no_show c.follow.ensures.status) follows.1;
  };
  follow_survives = λ words mine there. c.follow.ensures.survives there.told mine there.stands;
  unopened = λ opening misfit stood.
      let none = none_led (g.S.Site.seen c.args.site.now) misfit stood.fails in
      let opens = c.follow.ensures.unopened stood.told none.0 none.1 in
      record { unopened = opens.0; unsaid = λ isnt. opens.1; opens_nothing = c.follow.ensures.looks stood.told none.0 none.1 };
  not_store = λ no_migrate no_grow no_lead no_follow is. absurd (no_follow c.in-Follow.ensures);
  usage = λ unknown. absurd (unknown.no_follow c.in-Follow.ensures);
  usage_status = λ unknown. absurd (unknown.no_follow c.in-Follow.ensures);
  no_image = ⊎_elim (λ reading. absurd (no_reading c.in-Follow.ensures (refl, refl, refl) reading))
      (λ refuses. (c.follow.ensures.not_store (talk_refuses c.follow.result (not_talk c.follow.result (follow_otherwise c.follow.result c.follow.ensures.status)) refuses)).0);
  disk_fault = λ is. c.follow.ensures.faults.disk (ap Err is);
  hear_fault = λ is. c.follow.ensures.faults.hear (ap Err is);
  show_fault = λ is. c.follow.ensures.faults.show (ap Err is);
  stops = talk_stops g.S.Site c.follow.result c.args.site.now c.follow.new.site c.follow.ensures.faults;
  calls = c.follow.ensures.calls;
}

-- ---- other words
pub returns-in-Unknown : goal.returns-in-Unknown
returns-in-Unknown g c = record {
  folds = λ name words. absurd (c.in-Unknown.ensures.no_fold name words);
  applies = λ words. absurd (c.in-Unknown.ensures.no_apply words);
  survives = λ words. absurd (c.in-Unknown.ensures.no_apply words);
  inits = λ name depth fits words. absurd (c.in-Unknown.ensures.no_init name depth fits words);
  not_empty = λ is. absurd (ends_apart ends.Usage ends.NotEmpty refl is);
  only_files = λ told is. absurd (ends_apart ends.Usage ends.NotEmpty refl is);
  drills = λ n fits words. absurd (c.in-Unknown.ensures.no_drill n fits words);
  drill_survives = λ told n fits words. absurd (c.in-Unknown.ensures.no_drill n fits words);
  drill_status = λ n fits words. absurd (c.in-Unknown.ensures.no_drill n fits words);
  drill_completes = λ told n fits words. absurd (c.in-Unknown.ensures.no_drill n fits words);
  migrates = λ words. absurd (c.in-Unknown.ensures.no_migrate words);
  migrated = λ words. absurd (c.in-Unknown.ensures.no_migrate words);
  migrate_survives = λ words. absurd (c.in-Unknown.ensures.no_migrate words);
  unmigrated = λ words. absurd (c.in-Unknown.ensures.no_migrate words);
  migrate_unsaid = λ words. absurd (c.in-Unknown.ensures.no_migrate words);
  migrates_nothing = λ words. absurd (c.in-Unknown.ensures.no_migrate words);
  no_old_store = λ words is. absurd (ends_apart ends.Usage ends.NotStore refl is);
  old_command = λ is. absurd (ends_apart ends.Usage ends.OldCommand refl is);
  migrate_memory = λ words. absurd (c.in-Unknown.ensures.no_migrate words);
  migrate_status = λ words. absurd (c.in-Unknown.ensures.no_migrate words);
  migrate_completes = λ words. absurd (c.in-Unknown.ensures.no_migrate words);
  grows = λ words. absurd (c.in-Unknown.ensures.no_grow words);
  queries = λ path words. absurd (c.in-Unknown.ensures.no_query path words);
  serves = λ turns fits words. absurd (c.in-Unknown.ensures.no_serve turns fits words);
  door_fault = λ is. absurd (ends_apart ends.Usage ends.DoorFault refl is);
  leads = λ words. absurd (c.in-Unknown.ensures.no_lead words);
  follows = λ words. absurd (c.in-Unknown.ensures.no_follow words);
  follow_survives = λ words. absurd (c.in-Unknown.ensures.no_follow words);
  unopened = λ opening. absurd (unknown_opens c.args.words.now c.in-Unknown.ensures opening);
  not_store = λ no_migrate no_grow no_lead no_follow is. absurd (ends_apart ends.Usage ends.NotStore refl is);
  usage = λ unknown. c.say.ensures.says;
  usage_status = λ unknown. refl;
  no_image = λ either. talked_old g.S.Site _ c.args.site.now c.say.new.site c.say.ensures.talks;
  disk_fault = λ is. absurd (ends_apart ends.Usage ends.DiskFault refl is);
  hear_fault = λ is. absurd (ends_apart ends.Usage ends.HearFault refl is);
  show_fault = λ is. absurd (ends_apart ends.Usage ends.ShowFault refl is);
  stops = said_stops ends.Usage _ _ _ (inl refl) (no_fault_yet (g.S.Site.counts c.args.site.now)) c.say.ensures.counted;
  calls = c.say.ensures.talks.calls;
}
