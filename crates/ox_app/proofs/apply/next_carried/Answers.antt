use Rattle.std.proofs.Common.{◌≡◌, ◌∙◌, ◌⊎◌, ◌<◌, inl, inr, Option, Some, None, ap, refl, subst, sym}
use Rattle.std.specs.Prelude.{Err, IfErr, IfOk, IfSome, IsErrOf, Ok, Result}
use Rattle.std.proofs.lemmas.Result.{err_from_is_err_and}
use Rattle.ox_outside.specs.Log.{Grows}
use Rattle.ox_outside.proofs.Calls.{calls_then}
use Rattle.ox_outside.proofs.Counts.{stops_after, then_rose}
use Rattle.ox_feed.specs.Feed.{IsLine, bytes_left}
use Rattle.ox_feed.specs.declared.lines.FeedFault.{FeedFault}
use Rattle.ox_feed.specs.declared.lines.FeedFault.TheVariants as feeds
use Rattle.ox_feed.specs.declared.lines.Line.{Line}
use Rattle.ox_feed.specs.declared.lines.Line.TheVariants.{Text, Long, End}
use Rattle.ox_model.specs.Stack.{Stack}
use Rattle.ox_app.specs.Apply.{CarriesOut, CarriesOutNext}
use Rattle.ox_app.specs.Fold.{stop_of}
use Rattle.ox_app.specs.declared.carry.CarriedLine.{CarriedLine}
use Rattle.ox_app.specs.declared.stop.Stop.{Stop}
use Rattle.ox_app.specs.declared.stop.Stop.TheVariants as stops
use Rattle.ox_feed.proofs.HearingsInTurn.{hearing_worked}
use Rattle.ox_gated.specs.declared.fault.Halt.TheVariants as halts
use Rattle.ox_files.specs.Stands.{stands}
use Rattle.ox_app.proofs.Crashes.{during_carried, during_heard, grows_line, grows_no_line, stands_on}
use Rattle.ox_app.proofs.Settled.{settled_looking, settled_talking}
use Rattle.ox_app.proofs.Stops.{feed_stops, stopped_as}
use Rattle.ox_app.proofs.apply.next_carried.Goals as goal

-- an answer that is no error says nothing of one
if_ok_err : {T E : Type 0} (result : Result T E) (e : E) (P : T → Type 0) → result ≡ Err e → IfOk result P
if_ok_err {T} {E} result e P is = subst (λ (r : Result T E). IfOk r P) (sym is) tt

-- carrying out stops for two reasons alone
record StopsAtTwo {T : Type 0} (result : Result T Stop) : Type 0 where
  hear : IsErrOf result stops.HearFault → ⊥
  show : IsErrOf result stops.ShowFault → ⊥
  much : IsErrOf result stops.TooMuch → ⊥

two_stops : {T : Type 0} (result : Result T Stop) → IfErr result (λ stop. (stop ≡ stops.Halt halts.Disk) ⊎ (stop ≡ stops.Halt halts.Memory)) → StopsAtTwo result
two_stops (Ok x) none = record { hear = λ e. cc e; show = λ e. cc e; much = λ e. cc e }
two_stops (Err stop) (inl is) = record {
  hear = λ e. let same : stop ≡ stops.HearFault = cc e in let other : stops.Halt halts.Disk ≡ stops.HearFault = sym is ∙ same in cc other;
  show = λ e. let same : stop ≡ stops.ShowFault = cc e in let other : stops.Halt halts.Disk ≡ stops.ShowFault = sym is ∙ same in cc other;
  much = λ e. let same : stop ≡ stops.TooMuch = cc e in let other : stops.Halt halts.Disk ≡ stops.TooMuch = sym is ∙ same in cc other;
}
two_stops (Err stop) (inr is) = record {
  hear = λ e. let same : stop ≡ stops.HearFault = cc e in let other : stops.Halt halts.Memory ≡ stops.HearFault = sym is ∙ same in cc other;
  show = λ e. let same : stop ≡ stops.ShowFault = cc e in let other : stops.Halt halts.Memory ≡ stops.ShowFault = sym is ∙ same in cc other;
  much = λ e. let same : stop ≡ stops.TooMuch = cc e in let other : stops.Halt halts.Memory ≡ stops.TooMuch = sym is ∙ same in cc other;
}

-- a line that was answered isn't the end
fewer_carried : (line : Line) (stack : Stack) (result : Result (Option CarriedLine) Stop) (L : Type 0) → IfOk result (CarriesOut line stack) → (IsLine line → L) → IfOk result (λ carried. IfSome carried (λ c. L))
fewer_carried (Text l) stack (Ok (Some c)) L out fewer = fewer tt
fewer_carried Long stack (Ok (Some c)) L out fewer = fewer tt
fewer_carried End stack (Ok (Some c)) L out fewer = cc out
fewer_carried line stack (Ok None) L out fewer = tt
fewer_carried line stack (Err stop) L out fewer = tt

-- why the lines stop
record StopsFeed (fault : FeedFault) : Type 0 where
  disk : stop_of fault ≡ stops.Halt halts.Disk → ⊥
  hear : stop_of fault ≡ stops.HearFault → fault ≡ feeds.HearFault
  show : stop_of fault ≡ stops.ShowFault → ⊥
  much : stop_of fault ≡ stops.TooMuch → fault ≡ feeds.TooMuch

stops_feed : (fault : FeedFault) → StopsFeed fault
stops_feed feeds.HearFault = record { disk = λ e. cc e; hear = λ e. refl; show = λ e. cc e; much = λ e. cc e }
stops_feed feeds.TooMuch = record { disk = λ e. cc e; hear = λ e. cc e; show = λ e. cc e; much = λ e. refl }
stops_feed feeds.Memory = record { disk = λ e. cc e; hear = λ e. cc e; show = λ e. cc e; much = λ e. cc e }

pub returns : goal.returns
returns g c = record {
  told =
      grows_line c.in_ok-line.line c.args.lines.now c.next.new.self c.args.store.stack c.carry_out.result
      (g.S.Site.log c.args.site.now) (g.S.Site.log c.next.new.site) (g.S.Site.log c.carry_out.new.site)
      c.in_ok-line.ensures.told c.carry_out.ensures.carried c.carry_out.ensures.writes.as_logged;
  during = λ told stood.
      let holds = c.requires.holds told in
      let told_mid = c.next.ensures.talks.calls.as_told ∙ told in
      let stood_mid = stands_on g.S.Site c.args.site.now c.next.new.site c.args.store.stack c.next.ensures.talks.files stood in
      during_carried g.S.Site
      c.in_ok-line.line c.args.lines.now c.next.new.self c.args.store.stack c.args.site.now c.next.new.site c.carry_out.new.site
      c.next.ensures.talks holds.settled stood c.in_ok-line.ensures.told c.carry_out.ensures.writes.moments (c.carry_out.ensures.any_moment told_mid stood_mid);
  holds = λ told. c.carry_out.ensures.holds (c.next.ensures.talks.calls.as_told ∙ told);
  stands = λ told stood. c.carry_out.ensures.stands (c.next.ensures.talks.calls.as_told ∙ told) (stands_on g.S.Site c.args.site.now c.next.new.site c.args.store.stack c.next.ensures.talks.files stood);
  out_of_memory = λ told stood is.
      ap stands (c.carry_out.ensures.out_of_memory is).files
      ∙ stands_on g.S.Site c.args.site.now c.next.new.site c.args.store.stack c.next.ensures.talks.files stood;
  settled = λ told is.
      settled_looking g.S.Site c.next.new.site c.carry_out.new.site (c.carry_out.ensures.out_of_memory is)
      (settled_talking g.S.Site c.args.site.now c.next.new.site c.next.ensures.talks.files (c.requires.holds told).settled);
  one_more = c.carry_out.ensures.one_more;
  fewer = fewer_carried c.in_ok-line.line c.args.store.stack c.carry_out.result (bytes_left c.next.new.self < bytes_left c.args.lines.now) c.carry_out.ensures.carried c.in_ok-line.ensures.fewer;
  count = c.next.ensures.count;
  too_much = λ is. absurd ((two_stops c.carry_out.result c.carry_out.ensures.stops).much is);
  hear_fault = λ is. absurd ((two_stops c.carry_out.result c.carry_out.ensures.stops).hear is);
  disk_fault = λ is.
      let counts = g.S.Site.counts in
      then_rose (counts c.args.site.now).disk (counts c.next.new.site).disk (counts c.carry_out.new.site).disk c.next.ensures.talks.calls.none_fell.disk (c.carry_out.ensures.failed is);
  no_show_fault = λ is. (two_stops c.carry_out.result c.carry_out.ensures.stops).show is;
  counted = stops_after _ _ _ _ _ _ (hearing_worked c.in_ok-line.line _ _ c.in_ok-line.ensures.counted) c.carry_out.ensures.counted;
  calls = calls_then g.S.Site c.args.site.now c.next.new.site c.carry_out.new.site c.next.ensures.talks.calls c.carry_out.ensures.writes.calls;
}

pub returns-in_err-line : goal.returns-in_err-line
returns-in_err-line g c = record {
  told =
      let p = err_from_is_err_and c.from_residual.result c.from_residual.ensures.1 in
      subst (λ (r : Result (Option CarriedLine) Stop). Grows (CarriesOutNext c.args.lines.now c.args.store.stack r c.next.new.self) (g.S.Site.log c.args.site.now) (g.S.Site.log c.next.new.site)) (sym (p.1 ∙ ap Err p.2))
      (grows_no_line c.in_err-line.field-0.0 (stop_of c.in_err-line.field-0.0) c.args.lines.now c.next.new.self c.args.store.stack (g.S.Site.log c.args.site.now) (g.S.Site.log c.next.new.site) c.in_err-line.ensures.told);
  during = λ told stood.
      during_heard g.S.Site c.args.lines.now c.next.new.self c.args.store.stack c.args.site.now c.next.new.site
      c.next.ensures.talks (c.requires.holds told).settled stood;
  holds = λ told.
      let p = err_from_is_err_and c.from_residual.result c.from_residual.ensures.1 in
      if_ok_err c.from_residual.result _ _ (p.1 ∙ ap Err p.2);
  stands = λ told stood.
      let p = err_from_is_err_and c.from_residual.result c.from_residual.ensures.1 in
      if_ok_err c.from_residual.result _ _ (p.1 ∙ ap Err p.2);
  out_of_memory = λ told stood is. stands_on g.S.Site c.args.site.now c.next.new.site c.args.store.stack c.next.ensures.talks.files stood;
  settled = λ told is. settled_talking g.S.Site c.args.site.now c.next.new.site c.next.ensures.talks.files (c.requires.holds told).settled;
  one_more =
      let p = err_from_is_err_and c.from_residual.result c.from_residual.ensures.1 in
      if_ok_err c.from_residual.result _ _ (p.1 ∙ ap Err p.2);
  fewer =
      let p = err_from_is_err_and c.from_residual.result c.from_residual.ensures.1 in
      if_ok_err c.from_residual.result _ _ (p.1 ∙ ap Err p.2);
  count = c.next.ensures.count;
  too_much = λ is.
      let p = err_from_is_err_and c.from_residual.result c.from_residual.ensures.1 in
      c.in_err-line.ensures.too_much (ap Err ((stops_feed c.in_err-line.field-0.0).much (stopped_as c.from_residual.result (stop_of c.in_err-line.field-0.0) stops.TooMuch (p.1 ∙ ap Err p.2) is)));
  hear_fault = λ is.
      let p = err_from_is_err_and c.from_residual.result c.from_residual.ensures.1 in
      c.in_err-line.ensures.hear_fault (ap Err ((stops_feed c.in_err-line.field-0.0).hear (stopped_as c.from_residual.result (stop_of c.in_err-line.field-0.0) stops.HearFault (p.1 ∙ ap Err p.2) is)));
  disk_fault = λ is.
      let p = err_from_is_err_and c.from_residual.result c.from_residual.ensures.1 in
      absurd ((stops_feed c.in_err-line.field-0.0).disk (stopped_as c.from_residual.result (stop_of c.in_err-line.field-0.0) (stops.Halt halts.Disk) (p.1 ∙ ap Err p.2) is));
  no_show_fault = λ is.
      let p = err_from_is_err_and c.from_residual.result c.from_residual.ensures.1 in
      (stops_feed c.in_err-line.field-0.0).show (stopped_as c.from_residual.result (stop_of c.in_err-line.field-0.0) stops.ShowFault (p.1 ∙ ap Err p.2) is);
  counted =
      let p = err_from_is_err_and c.from_residual.result c.from_residual.ensures.1 in
      feed_stops c.from_residual.result c.in_err-line.field-0.0 _ _ (p.1 ∙ ap Err p.2) c.in_err-line.ensures.counted;
  calls = c.next.ensures.talks.calls;
}
