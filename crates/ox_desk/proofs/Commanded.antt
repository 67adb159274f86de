-- What a command leaves of files, of the log and of the counts, and what is told of it.
use Rattle.std.proofs.Common.{◌≡◌, ◌∙◌, ℕ, ◌+◌, Bool, List, Option, Some, None, is_some, inl, refl, sym, ap, subst, arith, unwrap_or}
use Rattle.std.specs.Prelude.{Result, Ok, Err, IfSome}
use Rattle.std.specs.Result.{result_ok}
use Rattle.ox_outside.specs.Counts.{Counts, StopsAtFault}
use Rattle.ox_outside.specs.Crash.{Remains}
use Rattle.ox_outside.specs.Runs.{LeavesOnly}
use Rattle.ox_outside.specs.declared.site.Site.{Ghosts as Meanings}
use Rattle.ox_outside.proofs.Calls.{leaves_at_first, no_call}
use Rattle.ox_outside.proofs.Counts.{no_fault_yet, stops_at_none}
use Rattle.ox_feed.specs.declared.command.Command.{Command}
use Rattle.ox_http.specs.Written.{written}
use Rattle.ox_rules.specs.Why.{Refuses}
use Rattle.ox_rules.specs.declared.refusal.Refusal.{Refusal}
use Rattle.ox_rules.specs.declared.why.Why.{Why}
use Rattle.ox_rules.specs.declared.why.Why.TheVariants.{Refused}
use Rattle.ox_gated.specs.Tail.{IsSettled}
use Rattle.ox_gated.specs.Writes.{OnlyWrites}
use Rattle.ox_index.specs.Tip.{tip_of}
use Rattle.ox_links.specs.Serving.{one_if}
use Rattle.ox_model.specs.Stack.{Stack, stack_after}
use Rattle.ox_files.specs.Stands.{stands}
use Rattle.ox_store.specs.Ready.{StandsForEither}
use Rattle.ox_store.specs.Store.{StoreContents}
use Rattle.ox_desk.specs.Asked.{asked_on}
use Rattle.ox_desk.specs.Desk.{ComesOf, IsCarried, stack_behind}
use Rattle.ox_desk.specs.Replies.{accepted_reply, command_reply, refused_reply}

-- the stack behind a command that is accepted
pub behind_is : (stack : Stack) (command : Command) (after : Stack) → stack_after stack command ≡ Ok after → stack_behind stack command ≡ after
behind_is stack command after is = ap (λ (r : Result Stack Refusal). unwrap_or (result_ok r) stack) is

-- where no call is made, a crash leaves what it left before
module _ {S : Type 0} (means : Meanings S) where
  pub files_untouched : ((site : S) (r : Remains) → means.left_since site (means.clock site) r → means.may_leave site r) → (site : S) (before after : Stack) → IsSettled means site
      → stands (means.seen site) ≡ Ok before → LeavesOnly means site site (λ r. StandsForEither before after r.files)
  files_untouched only_now site before after settled stood =
      leaves_at_first means site (λ r. StandsForEither before after r.files) (λ r left. inl (ap stands (settled r (only_now site r left)) ∙ stood))

  -- and nothing is written
  pub writes_none : ((site : S) (r : Remains) → means.left_since site (means.clock site) r → means.may_leave site r)
      → ((site : S) (r : Remains) → means.may_leave site r → means.log site ≡ Some r.log) → (site : S) → OnlyWrites means site site
  writes_none only_now logs_now site = record {
    calls = no_call means site;
    as_logged = refl;
    moments = leaves_at_first means site (λ r. means.log site ≡ Some r.log) (λ r left. logs_now site r (only_now site r left));
  }

-- nor counted
pub counts_none : (counts : Counts) → StopsAtFault ⊥ ⊥ ⊥ counts counts
counts_none counts = stops_at_none ⊥ ⊥ ⊥ counts counts (no_fault_yet counts)

-- ---- the reply

-- a command that is accepted, and the reply that is made by the newest block after it
pub accepted_comes : (store after : StoreContents) (command : Command) (close : Bool) (stack : Stack) (tip : Option (ℕ × List ℕ)) (bytes : List ℕ) (commands : ℕ)
    → stack_after store.stack command ≡ Ok stack → tip ≡ tip_of stack.index → bytes ≡ written (accepted_reply tip close) → after.stack ≡ stack
    → after.commands ≡ commands + 1 → commands ≡ store.commands → IsCarried store command close bytes after
accepted_comes store after command close stack tip bytes commands is newest told same one_more many = record {
  reply = told
      ∙ ap (λ (t : Option (ℕ × List ℕ)). written (accepted_reply t close)) newest
      ∙ ap (λ (r : Result Stack Refusal). written (command_reply asked_on r close)) (sym is);
  stack = same ∙ sym (behind_is store.stack command stack is);
  commands = one_more ∙ ap (λ (n : ℕ). n + 1) many
      ∙ ap (λ (r : Result Stack Refusal). store.commands + one_if (is_some (result_ok r))) (sym is);
}

-- one that is refused, or that there was no memory for
pub refused_comes : (store kept after : StoreContents) (command : Command) (close : Bool) (why : Why) (told : Option (List ℕ)) → Refuses why (stack_after store.stack command)
    → kept ≡ store → after ≡ kept → IfSome told (λ bytes. (cause : Refusal) × (why ≡ Refused cause) × (bytes ≡ written (refused_reply cause close)))
    → ComesOf store command close told after
refused_comes store kept after command close why None refused as_kept same tells = same ∙ as_kept
refused_comes store kept after command close why (Some bytes) refused as_kept same tells =
    let is : stack_after store.stack command ≡ Err tells.0 = subst (λ (w : Why). Refuses w (stack_after store.stack command)) tells.1 refused in
    let stays : after ≡ store = same ∙ as_kept in
    record {
      reply = tells.2 ∙ ap (λ (r : Result Stack Refusal). written (command_reply asked_on r close)) (sym is);
      stack = ap (λ (s : StoreContents). s.stack) stays ∙ ap (λ (r : Result Stack Refusal). unwrap_or (result_ok r) store.stack) (sym is);
      commands =
          let few : store.commands ≡ store.commands + 0 = omega arith in
          ap (λ (s : StoreContents). s.commands) stays ∙ few ∙ ap (λ (r : Result Stack Refusal). store.commands + one_if (is_some (result_ok r))) (sym is);
    }
