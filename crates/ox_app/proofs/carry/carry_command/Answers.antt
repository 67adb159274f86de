use Rattle.std.proofs.Common.{◌≡◌, ◌+◌, ◌≤◌, ℕ, subst, sym}
use Rattle.std.specs.Prelude.{IfOk, Result}
use Rattle.ox_outside.specs.Runs.{LeavesOnly}
use Rattle.ox_rules.specs.declared.refusal.Refusal.{Refusal}
use Rattle.ox_model.specs.Replies.{after_turn, index_on, reply_by}
use Rattle.ox_model.specs.Stack.{Stack, stack_after}
use Rattle.ox_store.specs.Ready.{StandsForEither}
use Rattle.ox_app.proofs.Carrying.{turn_refused, turn_without_memory}
use Rattle.ox_app.proofs.CommandAnswers.{by_disk_alone, no_memory_by_disk}
use Rattle.ox_app.proofs.carry.carry_command.Goals as goal

pub returns-in_default : goal.returns-in_default
returns-in_default g c =
    turn_without_memory g.S.Site g.met.S.Site.only_now g.met.S.Site.logs_now c.args.site.now c.args.store c.requires.holds
    (stack_after c.args.store.stack c.args.command.now)

pub returns-in-Ok-prepare : goal.returns-in-Ok-prepare
returns-in-Ok-prepare g c =
    let prepared = c.in-Ok-prepare.ensures.ready in
    let before = c.args.store.stack in
    let after = sym prepared.after in
    record {
      answer = subst (λ (s : Result Stack Refusal). IfOk c.commit.result (λ carried. carried.answer ≡ reply_by index_on s)) after c.commit.ensures.answer;
      leads = subst (λ (s : Result Stack Refusal). IfOk c.commit.result (λ carried. carried.store.stack ≡ after_turn before s)) after c.commit.ensures.leads;
      one_more = subst (λ (n : ℕ). IfOk c.commit.result (λ carried. carried.store.commands ≤ n + 1)) prepared.commands c.commit.ensures.one_more;
      holds = c.commit.ensures.holds;
      stands_for = λ told stood. c.commit.ensures.stands told before stood prepared.leads;
      any_moment = λ told stood.
          subst (λ (s : Result Stack Refusal). LeavesOnly g.S.Site c.args.site.now c.commit.new.site (λ r. StandsForEither before (after_turn before s) r.files)) after
          (c.commit.ensures.any_moment told before stood prepared.leads);
      out_of_memory = λ is. absurd (no_memory_by_disk c.commit.result c.commit.ensures.stops is);
      stops = by_disk_alone c.commit.result c.commit.ensures.stops;
      failed = c.commit.ensures.failed;
      counted = c.commit.ensures.counted;
      writes = c.commit.ensures.writes;
    }

pub returns-in-Refused : goal.returns-in-Refused
returns-in-Refused g c =
    let refused = rw c.in-Refused.is at c.in-Err.ensures.refused in
    turn_refused g.S.Site g.met.S.Site.only_now g.met.S.Site.logs_now c.args.site.now c.args.store c.requires.holds
    (stack_after c.args.store.stack c.args.command.now) c.in-Refused.refusal c.in-Err.field-0.store c.refuse.result
    refused c.in-Err.ensures.kept c.refuse.ensures.store c.refuse.ensures.answer c.refuse.ensures.stops

pub returns : goal.returns
returns g c =
    turn_without_memory g.S.Site g.met.S.Site.only_now g.met.S.Site.logs_now c.args.site.now c.args.store c.requires.holds
    (stack_after c.args.store.stack c.args.command.now)
