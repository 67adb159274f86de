use Rattle.std.proofs.Common.{◌≡◌, ◌∙◌, ◌+◌, Ok, ap, arith, subst, sym}
use Rattle.std.proofs.lemmas.Result.{err_from_is_err_and}
use Rattle.ox_outside.specs.Runs.{LeavesOnly}
use Rattle.ox_model.specs.Stack.{Stack}
use Rattle.ox_store.specs.Ready.{StandsForEither}
use Rattle.ox_drill.proofs.Parts.{carries_fault, carries_one, carries_refused, stops_done, stops_failed}
use Rattle.ox_drill.proofs.carry.carry.Goals as goal

pub returns-in_err-commit-in-Ok-clause-carries : goal.returns-in_err-commit-in-Ok-clause-carries
returns-in_err-commit-in-Ok-clause-carries g c =
    let prepared = c.in-Ok.ensures.ready in
    let p = err_from_is_err_and c.from_residual.result c.from_residual.ensures.1 in
    carries_fault g.S.Site c.args.store c.in-Ok.ready.stack c.args.command.now c.from_residual.result p.0 c.args.site.now c.commit.new.site p.1 prepared.after
    (λ told. c.commit.ensures.any_moment told c.args.store.stack (c.requires.in_step told).stands_for prepared.leads)

pub returns-in_ok-commit-in-Ok-clause-carries : goal.returns-in_ok-commit-in-Ok-clause-carries
returns-in_ok-commit-in-Ok-clause-carries g c =
    let prepared = c.in-Ok.ensures.ready in
    let last = c.in_ok-commit-in-Ok.field-0 in
    let before = c.args.store.stack in
    let same = sym c.in_ok-commit-in-Ok.ensures.stack in
    let one_more : last.commands ≡ c.args.store.commands + 1 = omega (arith, c.in_ok-commit-in-Ok.ensures.one_more, prepared.commands) in
    carries_one g.S.Site c.args.store last c.args.command.now c.args.site.now c.commit.new.site (prepared.after ∙ ap Ok same) one_more
    (λ told. subst (λ (s : Stack). LeavesOnly g.S.Site c.args.site.now c.commit.new.site (λ r. StandsForEither before s r.files)) same
    (c.commit.ensures.any_moment told before (c.requires.in_step told).stands_for prepared.leads))
    (λ told. record {
      holds = c.in_ok-commit-in-Ok.ensures.holds told;
      stands_for = c.in_ok-commit-in-Ok.ensures.stands told before (c.requires.in_step told).stands_for prepared.leads;
    })

pub returns-in-Refused-clause-carries : goal.returns-in-Refused-clause-carries
returns-in-Refused-clause-carries g c =
    let kept = c.in-Err.ensures.kept in
    let refused = rw c.in-Refused.is at c.in-Err.ensures.refused in
    rw kept (carries_refused g.S.Site c.args.store c.args.command.now c.in-Refused._refusal c.args.site.now g.met.S.Site.only_now refused c.requires.in_step)

pub returns-in_err-commit-in-Ok-clause-stops : goal.returns-in_err-commit-in-Ok-clause-stops
returns-in_err-commit-in-Ok-clause-stops g c =
    let p = err_from_is_err_and c.from_residual.result c.from_residual.ensures.1 in
    stops_failed g.S.Site c.commit.result c.from_residual.result p.0 c.args.site.now c.commit.new.site p.1 p.2 c.in_err-commit-in-Ok.ensures.failed c.commit.ensures.counted c.commit.ensures.writes

pub returns-in_ok-commit-in-Ok-clause-stops : goal.returns-in_ok-commit-in-Ok-clause-stops
returns-in_ok-commit-in-Ok-clause-stops g c =
    stops_done g.S.Site c.in_ok-commit-in-Ok.field-0 c.args.site.now c.commit.new.site c.in_ok-commit-in-Ok.ensures.counted c.commit.ensures.writes
