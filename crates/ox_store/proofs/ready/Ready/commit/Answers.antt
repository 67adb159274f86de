use Rattle.std.proofs.Common.{◌≡◌, ◌∙◌, ap, inr, subst, sym}
use Rattle.std.proofs.lemmas.Result.{err_from_is_err_and}
use Rattle.std.specs.Prelude.{◌+◌}
use Rattle.ox_outside.specs.Runs.{LeavesOnly}
use Rattle.ox_outside.proofs.Calls.{leaves_then, leaves_weaker}
use Rattle.ox_outside.proofs.Counts.{stops_after, then_rose}
use Rattle.ox_gated.specs.WritesOn.{writes_then}
use Rattle.ox_gated.proofs.Writing.{all_worked, ends_failed}
use Rattle.ox_index.specs.Chain.{stack_in}
use Rattle.ox_store.specs.Ready.{PreparedCommand, StandsForEither}
use Rattle.ox_store.specs.Turning.{HasGoneOn}
use Rattle.ox_store.specs.Writing.{HasOneMore, HasTurned, IsFileDue, LeadsTo}
use Rattle.ox_store.proofs.Exits.{no_value}
use Rattle.ox_store.proofs.TurningLemmas.{gone_on, names_turned, not_due, still_more, still_turned}
use Rattle.ox_store.proofs.ready.Ready.commit.Goals as goal

pub turn_where_due-requires-clause-names : goal.turn_where_due-requires-clause-names
turn_where_due-requires-clause-names g c = c.in_ok-written.ensures.names (stack_in c.self.inside.chain) c.self.invariant.2

pub turn_where_due-requires-clause-holds : goal.turn_where_due-requires-clause-holds
turn_where_due-requires-clause-holds g c told = c.in_ok-written.ensures.holds (sym c.in_ok-written.ensures.writes.calls.as_told ∙ told)

pub invariant_of-result : goal.invariant_of-result
invariant_of-result g c =
    let stack = stack_in c.self.inside.chain in
    names_turned c.in_ok-written.written c.in_ok-tail.tail stack (c.in_ok-written.ensures.names stack c.self.invariant.2) c.in_ok-tail.ensures.kept

pub returns : goal.returns
returns g c =
    let i = c.self.inside in
    let first = c.in_ok-written.ensures in
    let next = c.in_ok-tail.ensures in
    let written = c.in_ok-written.written in
    let new = c.in_ok-tail.tail in
    let goes = next.goes in record {
      stack = ap (λ (r : PreparedCommand). r.stack) c.self.view_is;
      one_more = ap (λ (r : PreparedCommand). r.commands + 1) c.self.view_is;
      appended = λ two stays. subst (λ (r : PreparedCommand). HasOneMore r.tail new) c.self.view_is
          (still_more i.tail written new (subst (λ (r : PreparedCommand). r.tail.head.version ≡ 2) (sym c.self.view_is) two)
          (first.appended (subst (λ (r : PreparedCommand). ¬ IsFileDue r.tail) (sym c.self.view_is) stays)) next.kept);
      turned = λ must. let due = subst (λ (r : PreparedCommand). IsFileDue r.tail) (sym c.self.view_is) must in
          subst (λ (r : PreparedCommand). HasTurned r.tail new) c.self.view_is (still_turned i.tail written new due.0 (first.turned due) next.kept);
      went_on = λ three. let is = subst (λ (r : PreparedCommand). r.tail.head.version ≡ 3) (sym c.self.view_is) three in
          subst (λ (r : PreparedCommand). HasGoneOn r.tail new) c.self.view_is (gone_on i.tail written new (first.appended (λ due. not_due _ is due.0)) next.kept);
      holds = λ told. next.holds (first.writes.calls.as_told ∙ told);
      stands = λ told before is leads.
          let after = first.stands told before (stack_in i.chain) is (subst (λ (r : PreparedCommand). LeadsTo before r.stack r.writing) (sym c.self.view_is) leads.leads) in
          next.stands (first.writes.calls.as_told ∙ told) after;
      any_moment = λ told before is leads.
          let led = subst (λ (r : PreparedCommand). LeadsTo before r.stack r.writing) (sym c.self.view_is) leads.leads in
          let after = first.stands told before (stack_in i.chain) is led in
          subst (λ (p : PreparedCommand). LeavesOnly g.S.Site c.args.site.now c.turn_where_due.new.site (λ r. StandsForEither before p.stack r.files)) c.self.view_is
          (leaves_then g.S.Site c.args.site.now c.write.new.site c.turn_where_due.new.site _ (c.write.ensures.any_moment told before (stack_in i.chain) is led)
          (leaves_weaker g.S.Site c.write.new.site c.turn_where_due.new.site _ _ (λ r stays. inr stays) (goes.moments (first.writes.calls.as_told ∙ told) after)));
      failed = tt;
      counted = stops_after _ _ _ _ _ _ (all_worked _ _ first.counted) goes.counted;
      writes = writes_then g.S.Site g.met.S.Site.logs_now c.args.site.now c.write.new.site c.turn_where_due.new.site first.writes goes.writes;
    }

pub returns-in_err-written : goal.returns-in_err-written
returns-in_err-written g c =
    let i = c.self.inside in
    let left = c.from_residual.result in
    let p = err_from_is_err_and left c.from_residual.ensures.1 in record {
      stack = no_value left p.0 _ p.1;
      one_more = no_value left p.0 _ p.1;
      appended = λ two stays. no_value left p.0 _ p.1;
      turned = λ must. no_value left p.0 _ p.1;
      went_on = λ three. no_value left p.0 _ p.1;
      holds = λ told. no_value left p.0 _ p.1;
      stands = λ told before is leads. no_value left p.0 _ p.1;
      any_moment = λ told before is leads.
          subst (λ (p : PreparedCommand). LeavesOnly g.S.Site c.args.site.now c.write.new.site (λ r. StandsForEither before p.stack r.files)) c.self.view_is
          (c.write.ensures.any_moment told before (stack_in i.chain) is (subst (λ (r : PreparedCommand). LeadsTo before r.stack r.writing) (sym c.self.view_is) leads.leads));
      failed = rw p.1 c.in_err-written.ensures.failed;
      counted = ends_failed _ left p.0 _ _ p.1 c.write.ensures.counted;
      writes = c.write.ensures.writes;
    }

pub returns-in_err-tail : goal.returns-in_err-tail
returns-in_err-tail g c =
    let i = c.self.inside in
    let first = c.in_ok-written.ensures in
    let goes = c.turn_where_due.ensures.goes in
    let left = c.from_residual-in_err-tail.result in
    let p = err_from_is_err_and left c.from_residual-in_err-tail.ensures.1 in record {
      stack = no_value left p.0 _ p.1;
      one_more = no_value left p.0 _ p.1;
      appended = λ two stays. no_value left p.0 _ p.1;
      turned = λ must. no_value left p.0 _ p.1;
      went_on = λ three. no_value left p.0 _ p.1;
      holds = λ told. no_value left p.0 _ p.1;
      stands = λ told before is leads. no_value left p.0 _ p.1;
      any_moment = λ told before is leads.
          let led = subst (λ (r : PreparedCommand). LeadsTo before r.stack r.writing) (sym c.self.view_is) leads.leads in
          let after = first.stands told before (stack_in i.chain) is led in
          subst (λ (p : PreparedCommand). LeavesOnly g.S.Site c.args.site.now c.turn_where_due.new.site (λ r. StandsForEither before p.stack r.files)) c.self.view_is
          (leaves_then g.S.Site c.args.site.now c.write.new.site c.turn_where_due.new.site _ (c.write.ensures.any_moment told before (stack_in i.chain) is led)
          (leaves_weaker g.S.Site c.write.new.site c.turn_where_due.new.site _ _ (λ r stays. inr stays) (goes.moments (first.writes.calls.as_told ∙ told) after)));
      failed = rw p.1 (then_rose _ _ _ first.writes.calls.none_fell.disk (c.in_err-tail.ensures.goes.rose tt));
      counted = ends_failed _ left p.0 _ _ p.1 (stops_after _ _ _ _ _ _ (all_worked _ _ first.counted) goes.counted);
      writes = writes_then g.S.Site g.met.S.Site.logs_now c.args.site.now c.write.new.site c.turn_where_due.new.site first.writes goes.writes;
    }
