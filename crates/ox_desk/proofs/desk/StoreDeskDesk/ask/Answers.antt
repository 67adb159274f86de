use Rattle.std.proofs.Common.{◌≡◌, ◌∙◌, ◌+◌, ◌<◌, ◌≤◌, ap, arith, refl, subst, sym}
use Rattle.std.specs.Prelude.{Err, IfOk}
use Rattle.ox_outside.specs.Counts.{greatest}
use Rattle.ox_outside.specs.Runs.{LeavesOnly}
use Rattle.ox_outside.proofs.Calls.{no_call}
use Rattle.ox_outside.proofs.Counts.{no_fault_yet, stops_at_none}
use Rattle.ox_http.specs.Written.{written}
use Rattle.ox_turns.specs.Desk.{state_behind}
use Rattle.ox_turns.specs.declared.handler.DeskFault.TheVariants.{Memory}
use Rattle.ox_model.specs.Stack.{Stack}
use Rattle.ox_store.specs.Ready.{StandsForEither}
use Rattle.ox_desk.specs.Desk.{CarriesOut, DeskContents, Rests, Steps, stack_behind}
use Rattle.ox_desk.specs.DeskLaws.{serves_http}
use Rattle.ox_desk.specs.Servers.{server_on}
use Rattle.ox_desk.specs.declared.told.Step.{Step}
use Rattle.ox_desk.proofs.Answering.{carried_behind, told_behind, told_moved, told_reply}
use Rattle.ox_desk.proofs.Asking.{carried_closes, carried_made, carried_moves, carried_on, rests_told}
use Rattle.ox_desk.proofs.Commanded.{files_untouched, writes_none}
use Rattle.ox_desk.proofs.PutBack.{memory_is_no_fault, ok_is_no_error}
use Rattle.ox_desk.proofs.desk.StoreDeskDesk.ask.Goals as goal

pub step-requires : goal.step-requires
step-requires g c = record { is_open = c.requires.rests.is_open; room = c.requires.room }

pub carry_out-requires : goal.carry_out-requires
carry_out-requires g c =
    let step = subst (λ (s : Step). Steps c.args.self.now c.args.request.now c.args.operator s c.step.new.self) c.in-Ok-Carries.field-0-is c.in-Ok-Carries.ensures.ok in
    record {
      rests = subst (λ (d : DeskContents). Rests g.S.Site d c.args.site.now) (sym step.1) c.requires.rests;
      room = subst (λ (d : DeskContents). d.requests < greatest) (sym step.1) c.requires.room;
    }

-- a request that is told
pub returns-in-Ok-Told : goal.returns-in-Ok-Told
returns-in-Ok-Told g c =
    let old = c.args.self.now in
    let request = c.args.request.now in
    let step = subst (λ (s : Step). Steps old request c.args.operator s c.step.new.self) c.in-Ok-Told.field-0-is c.in-Ok-Told.ensures.ok in
    record {
      made = step.1.reply ∙ ap written (told_reply old.stack c.args.operator request step.0);
      closes = sym (serves_http.reply_closes old.stack c.args.operator request);
      moves = step.1.stack ∙ sym (told_behind old.stack c.args.operator request step.0);
      moved = told_moved old c.step.new.self c.args.operator request c.in-Ok-Told.bytes step.0 step.1;
      memory = λ none. absurd (ok_is_no_error _ _ none);
      same = λ none. absurd (ok_is_no_error _ _ none);
      rests = λ no_fault. rests_told g.S.Site c.args.site.now old c.step.new.self request c.in-Ok-Told.bytes step.1 c.requires.rests;
      asked = let one_more = step.1.requests in omega (arith, one_more);
      any_moment = λ told.
          files_untouched g.S.Site g.met.S.Site.only_now c.args.site.now old.stack (state_behind server_on old.stack c.args.operator request) (c.requires.rests.holds told).settled (c.requires.rests.stands_for told);
      log_stays = (writes_none g.S.Site g.met.S.Site.only_now g.met.S.Site.logs_now c.args.site.now).moments;
      logged = refl;
      failed = λ fault. absurd (ok_is_no_error _ _ fault);
      counted = stops_at_none _ ⊥ ⊥ (g.S.Site.counts c.args.site.now) (g.S.Site.counts c.args.site.now) (no_fault_yet (g.S.Site.counts c.args.site.now));
      calls = no_call g.S.Site c.args.site.now;
    }

-- a command
pub returns-in-Ok-Carries : goal.returns-in-Ok-Carries
returns-in-Ok-Carries g c =
    let old = c.args.self.now in
    let request = c.args.request.now in
    let command = c.in-Ok-Carries.command in
    let step = subst (λ (s : Step). Steps old request c.args.operator s c.step.new.self) c.in-Ok-Carries.field-0-is c.in-Ok-Carries.ensures.ok in
    let carries = subst (λ (d : DeskContents). IfOk c.carry_out.result (λ made. CarriesOut d command request.close made c.carry_out.new.self)) step.1 c.carry_out.ensures.ok in
    record {
      made = carried_made old c.carry_out.new.self c.args.operator request command step.0 c.carry_out.result carries;
      closes = carried_closes old c.carry_out.new.self c.args.operator request command step.0 c.carry_out.result carries;
      moves = carried_moves old c.carry_out.new.self c.args.operator request command step.0 c.carry_out.result carries;
      moved = carried_on old c.carry_out.new.self c.args.operator request command step.0 c.carry_out.result carries;
      memory = λ none. ap (λ (d : DeskContents). d.stack) (c.carry_out.ensures.memory none ∙ step.1);
      same = λ none. c.carry_out.ensures.memory none ∙ step.1;
      rests = c.carry_out.ensures.rests;
      asked = subst (λ (d : DeskContents). c.carry_out.new.self.requests ≤ d.requests + 1) step.1 c.carry_out.ensures.asked;
      any_moment = λ told.
          subst (λ (after : Stack). LeavesOnly g.S.Site c.args.site.now c.carry_out.new.site (λ r. StandsForEither old.stack after r.files))
          (sym (carried_behind old.stack c.args.operator request command step.0))
          (subst (λ (d : DeskContents). LeavesOnly g.S.Site c.args.site.now c.carry_out.new.site (λ r. StandsForEither d.stack (stack_behind d.stack command) r.files)) step.1
          (c.carry_out.ensures.any_moment told));
      log_stays = c.carry_out.ensures.writes.moments;
      logged = c.carry_out.ensures.writes.as_logged;
      failed = c.carry_out.ensures.failed;
      counted = c.carry_out.ensures.counted;
      calls = c.carry_out.ensures.writes.calls;
    }

-- there was no memory
pub returns-in-Err : goal.returns-in-Err
returns-in-Err g c =
    let old = c.args.self.now in
    let stays = c.in-Err.ensures.err in
    record {
      made = tt;
      closes = tt;
      moves = tt;
      moved = tt;
      memory = λ none. ap (λ (d : DeskContents). d.stack) stays;
      same = λ none. stays;
      rests = λ no_fault. subst (λ (d : DeskContents). Rests g.S.Site d c.args.site.now) (sym stays) c.requires.rests;
      asked = let same : c.step.new.self.requests ≡ old.requests = ap (λ (d : DeskContents). d.requests) stays in omega (arith, same);
      any_moment = λ told.
          files_untouched g.S.Site g.met.S.Site.only_now c.args.site.now old.stack (state_behind server_on old.stack c.args.operator c.args.request.now) (c.requires.rests.holds told).settled (c.requires.rests.stands_for told);
      log_stays = (writes_none g.S.Site g.met.S.Site.only_now g.met.S.Site.logs_now c.args.site.now).moments;
      logged = refl;
      failed = λ fault. absurd (memory_is_no_fault (Err Memory) refl fault);
      counted = stops_at_none _ ⊥ ⊥ (g.S.Site.counts c.args.site.now) (g.S.Site.counts c.args.site.now) (no_fault_yet (g.S.Site.counts c.args.site.now));
      calls = no_call g.S.Site c.args.site.now;
    }
