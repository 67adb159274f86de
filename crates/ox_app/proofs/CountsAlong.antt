-- What a desk counts along the answers of a run, where it counts each of them as it is to be counted.
use Rattle.std.proofs.Common.{◌≡◌, ◌∙◌, ℕ, ◌+◌, Bool, false, List, [], ◌∷◌, Option, Some, None, inl, inr, refl, sym, ap, arith}
use Rattle.std.specs.Prelude.{is_some}
use Rattle.std.proofs.lemmas.List.Sums.{sum_by-append}
use Rattle.ox_outside.specs.Counts.{Counts as Site}
use Rattle.ox_outside.specs.Event.{Event}
use Rattle.ox_http.specs.declared.Method.{Method}
use Rattle.ox_http.specs.declared.Method.TheVariants.{Get}
use Rattle.ox_http.specs.declared.Request.{Request}
use Rattle.ox_http.specs.Talk.{Message, asks, faults}
use Rattle.ox_links.specs.Counted.{Key, Tally, is_request, no_tally, requests_in, tally_after, with_answer_to, with_request}
use Rattle.ox_links.specs.Link.{Answer, Written}
use Rattle.ox_links.specs.Serving.{Server, message_command, message_reply, next_state, one_if, served_by}
use Rattle.ox_desk.specs.Desk.{tally_by}
use Rattle.ox_app.specs.Along.{ByMessage, GoesAlong}
use Rattle.ox_app.specs.Turns.{MadeTurns, Served}
use Rattle.ox_app.proofs.DeskAlong.{many_after}

abbrev key_at : ℕ → List ℕ → Key
key_at accepted path = record { accepted = accepted; path = path }

by_key : {C : Type 0} (method : Method) (path : List ℕ) (answer : Answer C) (tally : Tally)
    → with_request method path answer tally ≡ tally_by method (key_at answer.accepted path) answer.reply.size tally
by_key Get path answer tally = refl
by_key method path answer tally = refl

-- what a desk counts of a request, whether its link is an operator's or not
pub record Counts {X C D : Type 0} (server : Server X C) (state : D → X) (requests accepted : D → ℕ) (tally : D → Tally)
    (old : D) (request : Request) (operator : Bool) (new : D) : Type 0 where
  pub many : requests new ≡ requests old + 1
  pub commands : accepted new ≡ accepted old + one_if (is_some (next_state server (state old) (server.command operator request)))
  pub tallied : tally new ≡ tally_by request.method (key_at (accepted old) request.path) (server.reply (state old) operator request).size (tally old)

-- it stays as it counts
pub record Stays {D : Type 0} (requests accepted : D → ℕ) (tally : D → Tally) (old new : D) : Type 0 where
  pub many : requests new ≡ requests old
  pub commands : accepted new ≡ accepted old
  pub tallied : tally new ≡ tally old

module _ {X C D : Type 0} (server : Server X C) (state : D → X) (moved : D → Request → Bool → D → Type 0) (same : D → D → Type 0)
    (requests accepted : D → ℕ) (tally : D → Tally)
    (moves : (old : D) (request : Request) (operator : Bool) (new : D) → moved old request operator new → Counts server state requests accepted tally old request operator new)
    (stays : (old new : D) → same old new → Stays requests accepted tally old new) where
  -- what an answer adds
  record Adds (old : D) (message : Option Message) (answer : Answer C) (new : D) : Type 0 where
    pub many : requests new ≡ one_if (is_request message) + requests old
    pub commands : accepted new ≡ accepted old + one_if answer.is_accepted
    pub tallied : tally new ≡ with_answer_to message answer (tally old)

  stood : (old new : D) (message : Option Message) (answer : Answer C) → is_request message ≡ false → one_if answer.is_accepted ≡ 0 → with_answer_to message answer (tally old) ≡ tally old
      → Stays requests accepted tally old new → Adds old message answer new
  stood old new message answer none refused untold stay = record {
    many = let e : one_if (is_request message) ≡ 0 = ap one_if none in omega (arith, stay.many, e);
    commands = omega (arith, stay.commands, refused);
    tallied = stay.tallied ∙ sym untold;
  }

  same_desk : (old new : D) → new ≡ old → Stays requests accepted tally old new
  same_desk old new is = record { many = ap requests is; commands = ap accepted is; tallied = ap tally is }

  adds : (n : ℕ) (old new : D) (operator : Bool) (message : Option Message) (answer : Answer C) → accepted old ≡ n → answer.accepted ≡ n → answer.reply ≡ message_reply server (state old) operator message
      → answer.command ≡ message_command server operator message → answer.is_accepted ≡ is_some (next_state server (state old) answer.command)
      → ByMessage moved same operator message old new → Adds old message answer new
  adds n old new operator (Some (asks request)) answer is before reply command took by =
      let counts = moves old request operator new by in
      record {
        many = omega (arith, counts.many);
        commands = counts.commands ∙ ap (λ (b : Bool). accepted old + one_if b) (sym (took ∙ ap (λ (c : Option C). is_some (next_state server (state old) c)) command));
        tallied = counts.tallied
            ∙ ap (λ (k : ℕ). tally_by request.method (key_at k request.path) (server.reply (state old) operator request).size (tally old)) (is ∙ sym before)
            ∙ ap (λ (w : Written). tally_by request.method (key_at answer.accepted request.path) w.size (tally old)) (sym reply)
            ∙ sym (by_key request.method request.path answer (tally old));
      }
  adds n old new operator (Some (faults status)) answer is before reply command took by =
      stood old new (Some (faults status)) answer refl (ap one_if (took ∙ ap (λ (c : Option C). is_some (next_state server (state old) c)) command)) refl (same_desk old new by)
  adds n old new operator None answer is before reply command took (inl by) =
      stood old new None answer refl (ap one_if (took ∙ ap (λ (c : Option C). is_some (next_state server (state old) c)) command)) refl (same_desk old new by)
  adds n old new operator None answer is before reply command took (inr by) =
      stood old new None answer refl (ap one_if (took ∙ ap (λ (c : Option C). is_some (next_state server (state old) c)) command)) refl (stays old new by)

  -- so much is counted after all of them
  pub record Totals (n : ℕ) (old : D) (answers : List (Answer C)) (new : D) : Type 0 where
    pub many : requests new ≡ requests_in answers + requests old
    pub commands : accepted new ≡ many_after n answers
    pub tallied : tally new ≡ tally_after (tally old) answers

  pub totals_along : (n : ℕ) (old new : D) (answers : List (Answer C)) → accepted old ≡ n → GoesAlong server state moved same n old answers new → Totals n old answers new
  totals_along n old new [] is goes = record { many = let e : requests new ≡ requests old = ap requests goes in omega (arith, e); commands = ap accepted goes ∙ is; tallied = ap tally goes }
  totals_along n old new (answer ∷ answers) is goes =
      let by = goes.1 in
      let mid = goes.0 in
      let added = adds n old mid by.operator answer.message answer is by.accepted_before by.reply by.command by.is_accepted by.desk in
      let later = totals_along (n + one_if answer.is_accepted) mid new answers (added.commands ∙ ap (λ (k : ℕ). k + one_if answer.is_accepted) is) goes.2 in
      record {
        many = let e : requests_in (answer ∷ answers) ≡ (0 + one_if (is_request answer.message)) + requests_in answers = sum_by-append _ (answer ∷ []) answers in omega (arith, later.many, added.many, e);
        commands = later.commands;
        tallied = later.tallied ∙ ap (λ (t : Tally). tally_after t answers) added.tallied;
      }

  -- of turns that were made, from a desk that has counted nothing
  pub made_served : (n : ℕ) (old new : Site) (desk next : D) (events : List Event) → requests desk ≡ 0 → accepted desk ≡ 0 → tally desk ≡ no_tally
      → MadeTurns server state moved same n old new desk next events → Served server (state desk) n old new (requests next) (tally next).hits events
  made_served n old new desk next events none first untold made =
      let totals = totals_along 0 desk next (served_by server (state desk) events).answers first made.goes in
      record {
        turned = made.turned;
        requests_counted = omega (arith, totals.many, none);
        hits_counted = ap (λ (t : Tally). t.hits) totals.tallied ∙ ap (λ (t : Tally). (tally_after t (served_by server (state desk) events).answers).hits) untold;
      }
