-- What a desk's answers come to: the server's replies, its states, and what is counted.
use Rattle.std.proofs.Common.{◌≡◌, ◌∙◌, ℕ, ◌+◌, ◌-◌, ◌^◌, ◌<◌, ◌≤◌, Bool, true, false, cond, List, [], length, nat_le, Option, Some, None, is_some, refl, sym, ap, subst, arith, unwrap_or}
use Rattle.std.specs.Prelude.{Result, Ok, Err, IfOk}
use Rattle.std.specs.Result.{result_ok}
use Rattle.ox_feed.specs.declared.command.Command.{Command}
use Rattle.ox_http.specs.declared.Method.{Method}
use Rattle.ox_http.specs.declared.Method.TheVariants.{Get, Post, Other}
use Rattle.ox_http.specs.declared.Reply.{Reply}
use Rattle.ox_http.specs.declared.Request.{Request}
use Rattle.ox_http.specs.Written.{written}
use Rattle.ox_links.specs.Counted.{Key, Tally, with_get}
use Rattle.ox_links.specs.Serving.{next_state, one_if}
use Rattle.ox_turns.specs.Desk.{state_behind}
use Rattle.ox_turns.specs.declared.handler.Made.{Made}
use Rattle.ox_rules.specs.declared.refusal.Refusal.{Refusal}
use Rattle.ox_model.specs.Stack.{Stack, stack_after}
use Rattle.ox_cache.specs.Kept.{Answers, Entry, Kept, body_kept, closing, entry_of}
use Rattle.ox_desk.specs.Asked.{asked_on}
use Rattle.ox_desk.specs.Commands.{command_by, command_of}
use Rattle.ox_desk.specs.Desk.{CarriesOut, DeskContents, IsTrueOf, KeepsTrue, LooksUp, Moved, Tells, accepted_one, stack_behind, tally_by, tally_of}
use Rattle.ox_desk.specs.Queries.{query_reply}
use Rattle.ox_desk.specs.Replies.{command_reply, reply_or}
use Rattle.ox_desk.specs.Servers.{reply_to, server_on}
use Rattle.ox_desk.proofs.Cached.{found, keeps_hit, keeps_miss, keeps_past, tally_hit, tally_miss}
use Rattle.ox_desk.proofs.Closing.{query_closes, query_closes_own}

-- ---- a GET, from a cache

same_hits : (entries : List Entry) (cache : Kept) (b : Bool) → (cond b (record cache { entries = entries }) cache).hits ≤ cache.hits + 1
same_hits entries cache true = omega arith
same_hits entries cache false = omega arith

module _ (MadeBy : Reply → Type 0) (stack : Stack) (commands : ℕ) (request : Request) (old new : Kept) (bytes : List ℕ) (get : request.method ≡ Get)
    (makes : (reply : Reply) → MadeBy reply → reply ≡ query_reply (asked_on stack) request) (keeps : KeepsTrue stack commands old) (few : old.hits < 2 ^ 64 - 1) where
  looked : (o : Option Entry) → entry_of commands request.path old.entries ≡ o → Answers MadeBy commands request.path request.close old bytes new o → LooksUp stack commands request old bytes new
  looked (Some entry) is answers =
      let its = found commands request.path (IsTrueOf stack commands) old.entries entry keeps.entries is in
      let true_now : closing request.close entry.reply ≡ query_reply (asked_on stack) request =
      its.1.present (sym its.0.0) request.close
      ∙ ap (λ (p : List ℕ). query_reply (asked_on stack) (record { method = Get; path = p; body = []; close = request.close })) (sym its.0.1)
      ∙ query_closes_own (asked_on stack) request get in
      record {
        reply = answers.0 ∙ ap written true_now;
        keeps = subst (KeepsTrue stack commands) (sym answers.1) (keeps_hit stack commands commands request.path entry old keeps is);
        tally = ap tally_of answers.1 ∙ tally_hit commands request.path entry old (length (query_reply (asked_on stack) request).body) keeps.apart is few;
        hits = let e : new.hits ≡ old.hits + 1 = ap (λ (k : Kept). k.hits) answers.1 ∙ omega (arith, few) in omega (arith, e);
      }
  looked None is answers =
      let reply = answers.0 in
      let made = makes reply answers.1 in
      let entry : Entry = record { commands = commands; path = request.path; reply = reply } in
      record {
        reply = answers.2 ∙ ap (λ (r : Reply). written (closing request.close r)) made
            ∙ ap written (query_closes (asked_on stack) request request.close get ∙ query_closes_own (asked_on stack) request get);
        keeps = subst (KeepsTrue stack commands) (sym answers.3) (keeps_miss stack commands entry old keeps is (record {
          none_above = omega arith;
          present = λ now close. ap (closing close) made ∙ query_closes (asked_on stack) request close get;
        }));
        tally = ap tally_of answers.3 ∙ tally_miss entry old keeps.room is
            ∙ ap (λ (r : Reply). with_get (record { accepted = commands; path = request.path }) (length r.body) (tally_of old)) made;
        hits = subst (λ (k : Kept). k.hits ≤ old.hits + 1) (sym answers.3) (same_hits _ old (nat_le (length reply.body) body_kept));
      }

  looked_now : (n : ℕ) (path : List ℕ) → n ≡ commands → path ≡ request.path → Answers MadeBy n path request.close old bytes new (entry_of n path old.entries) → LooksUp stack commands request old bytes new
  looked_now n path many is answers =
      looked (entry_of commands request.path old.entries) refl
      (subst (λ (p : List ℕ). Answers MadeBy commands p request.close old bytes new (entry_of commands p old.entries)) is
      (subst (λ (m : ℕ). Answers MadeBy m path request.close old bytes new (entry_of m path old.entries)) many answers))

pub looked_up : {E : Type 0} (MadeBy : Reply → Type 0) (stack : Stack) (commands : ℕ) (request : Request) (old new : Kept) (result : Result (List ℕ) E) → request.method ≡ Get
    → ((reply : Reply) → MadeBy reply → reply ≡ query_reply (asked_on stack) request) → KeepsTrue stack commands old → old.hits < 2 ^ 64 - 1
    → (n : ℕ) (path : List ℕ) → n ≡ commands → path ≡ request.path → IfOk result (λ bytes. Answers MadeBy n path request.close old bytes new (entry_of n path old.entries))
    → IfOk result (λ bytes. LooksUp stack commands request old bytes new)
looked_up MadeBy stack commands request old new (Ok bytes) get makes keeps few n path many is answers =
    looked_now MadeBy stack commands request old new bytes get makes keeps few n path many is answers
looked_up MadeBy stack commands request old new (Err e) get makes keeps few n path many is answers = tt

-- ---- what carries out nothing

-- a request that is no GET leaves a tally
pub tally_stays : (method : Method) (key : Key) (size : ℕ) (tally : Tally) → (method ≡ Get → ⊥) → tally_by method key size tally ≡ tally
tally_stays Get key size tally other = absurd (other refl)
tally_stays Post key size tally other = refl
tally_stays Other key size tally other = refl

pub tally_of_get : (method : Method) (key : Key) (size : ℕ) (tally : Tally) → method ≡ Get → tally_by method key size tally ≡ with_get key size tally
tally_of_get method key size tally get = ap (λ (m : Method). tally_by m key size tally) get

-- ---- the server's replies and states

module _ (stack : Stack) (operator : Bool) (request : Request) where
  pub told_reply : command_of operator request ≡ None → query_reply (asked_on stack) request ≡ reply_to stack operator request
  told_reply none = ap (λ (o : Option Command). reply_or stack_after asked_on stack request o) (sym none)

  pub carried_reply : (command : Command) → command_of operator request ≡ Some command → command_reply asked_on (stack_after stack command) request.close ≡ reply_to stack operator request
  carried_reply command is = ap (λ (o : Option Command). reply_or stack_after asked_on stack request o) (sym is)

  pub told_behind : command_of operator request ≡ None → state_behind server_on stack operator request ≡ stack
  told_behind none = ap (λ (o : Option Command). unwrap_or (next_state server_on stack o) stack) none

  pub carried_behind : (command : Command) → command_of operator request ≡ Some command → state_behind server_on stack operator request ≡ stack_behind stack command
  carried_behind command is = ap (λ (o : Option Command). unwrap_or (next_state server_on stack o) stack) is

  told_none : command_of operator request ≡ None → one_if (is_some (next_state server_on stack (command_of operator request))) ≡ 0
  told_none none = ap (λ (o : Option Command). one_if (is_some (next_state server_on stack o))) none

  carried_one : (command : Command) → command_of operator request ≡ Some command → one_if (is_some (next_state server_on stack (command_of operator request))) ≡ accepted_one stack command
  carried_one command is = ap (λ (o : Option Command). one_if (is_some (next_state server_on stack o))) is

-- a command's request is no GET
no_get : (operator : Bool) (method : Method) (request : Request) (command : Command) → command_by operator method request ≡ Some command → method ≡ Get → ⊥
no_get true Get request command is get = cc is
no_get false Get request command is get = cc is
no_get operator Post request command is get = cc get
no_get operator Other request command is get = cc get

pub told_moved : (old new : DeskContents) (operator : Bool) (request : Request) (bytes : List ℕ) → command_of operator request ≡ None → Tells old request bytes new → Moved old request operator new
told_moved old new operator request bytes none tells = record {
  requests = tells.requests;
  commands = let e = told_none old.stack operator request none in omega (arith, tells.commands, e);
  tally = tells.tally
      ∙ ap (λ (r : Reply). tally_by request.method (record { accepted = old.commands; path = request.path }) (length r.body) (tally_of old.cache)) (told_reply old.stack operator request none);
}

pub carried_moved : (old new : DeskContents) (operator : Bool) (request : Request) (command : Command) (made : Made) → command_of operator request ≡ Some command → CarriesOut old command request.close made new → Moved old request operator new
carried_moved old new operator request command made is carries = record {
  requests = carries.requests;
  commands = carries.commands ∙ ap (λ (n : ℕ). old.commands + n) (sym (carried_one old.stack operator request command is));
  tally = ap tally_of carries.cache ∙ sym (tally_stays request.method _ _ (tally_of old.cache) (no_get operator request.method request command is));
}

-- ---- behind a command

keeps_turned : (stack : Stack) (commands : ℕ) (cache : Kept) (turned : Result Stack Refusal) → KeepsTrue stack commands cache
    → KeepsTrue (unwrap_or (result_ok turned) stack) (commands + one_if (is_some (result_ok turned))) cache
keeps_turned stack commands cache (Ok new) keeps = keeps_past stack new commands cache keeps
keeps_turned stack commands cache (Err refusal) keeps = subst (λ (n : ℕ). KeepsTrue stack n cache) (let e : commands ≡ commands + 0 = omega arith in e) keeps

-- what is kept stays true
pub keeps_behind : (stack new : Stack) (commands count : ℕ) (cache : Kept) (command : Command) → new ≡ stack_behind stack command → count ≡ commands + accepted_one stack command → KeepsTrue stack commands cache → KeepsTrue new count cache
keeps_behind stack new commands count cache command is many keeps =
    subst (λ (s : Stack). KeepsTrue s count cache) (sym is)
    (subst (λ (n : ℕ). KeepsTrue (stack_behind stack command) n cache) (sym many) (keeps_turned stack commands cache (stack_after stack command) keeps))

one_at_most : (turned : Result Stack Refusal) → one_if (is_some (result_ok turned)) ≤ 1
one_at_most (Ok new) = omega arith
one_at_most (Err refusal) = omega arith

pub accepted_few : (stack : Stack) (command : Command) → accepted_one stack command ≤ 1
accepted_few stack command = one_at_most (stack_after stack command)
