-- Each answer of a run is to the next message of its link, by the state after the commands before.
use Rattle.std.proofs.Common.{not, ◌≡◌, ◌∙◌, ◌≤◌, ◌==◌, ℕ, suc, ◌+◌, Bool, true, false, List, [], ◌∷◌, ◌++◌, ◌&&◌, ◌||◌, length, Option, Some, None, if◌then◌else◌, refl, sym, ap, subst, arith, append_assoc, length-append}
use Rattle.std.specs.Prelude.{IsTrue, is_some, slice_get}
use Rattle.std.proofs.Math.Bool.{or-true}
use Rattle.std.proofs.lemmas.Bool.{eq-eqb, eqb-true}
use Rattle.std.proofs.lemmas.List.Kept.{AllPairs-filter}
use Rattle.ox_outside.specs.Event.{Event, Opened, Heard, Ended, Showed, Broke, GaveUp, Shut, channel_of, heard_bytes, has_given_up}
use Rattle.ox_outside.proofs.Event.{has_given_up-append, heard_bytes-append}
use Rattle.ox_http.specs.Talk.{Message}
use Rattle.ox_links.specs.Answered.{AllInTurn, AreTo, IsInTurn, IsToNext, NeverFall, TalkGoesOn}
use Rattle.ox_links.specs.Link.{Answer, all_shown, answers_to, is_operators, is_to}
use Rattle.ox_links.specs.Serving.{Server, Serving, answer_of, with_answer, with_event, after_event, serve_on, served_by, start_at, next_state, message_reply}
use Rattle.ox_links.proofs.Apart.{answers_to-other, answers_to-own}
use Rattle.ox_links.proofs.Each.{AllOf, all_more, Each, each_at, each_more, EachNumber, number_at, Rises, rises_more, rises_pairs, slice_get-front}
use Rattle.ox_links.proofs.Moments.{at_event, IsMoment, IsGivingUp}
use Rattle.ox_links.proofs.States.{Leads, leads_with, start_leads}

pub giving_up : (past : List Event) (event : Event) → IsGivingUp event → has_given_up (channel_of event) (past ++ event ∷ []) ≡ true
giving_up past (GaveUp c) is = has_given_up-append c past (GaveUp c ∷ []) ∙ ap (λ (b : Bool). has_given_up c past || (b || false)) (eq-eqb c c refl) ∙ or-true (has_given_up c past)
giving_up past (Opened c door) is = absurd is
giving_up past (Heard c bytes) is = absurd is
giving_up past (Ended c) is = absurd is
giving_up past (Showed c bytes) is = absurd is
giving_up past (Broke c) is = absurd is
giving_up past (Shut c) is = absurd is

-- what is asked is behind answers that are shown
pub asked_is : {A : Type 0} (a b : Bool) (o : Option A) (m : A) → (if a && not b then o else None) ≡ Some m → IsTrue a × (b ≡ false) × (o ≡ Some m)
asked_is true true o m is = absurd (cc is)
asked_is true false o m is = (refl, refl, is)
asked_is false b o m is = absurd (cc is)

module _ {X C : Type 0} (server : Server X C) (first : X) where
  to_next : (run : Serving X C) (event : Event) (rest : List Event) (m : Option Message) → IsMoment server (with_event run event) event rest m
      → IsToNext server (run.past ++ event ∷ []) run.answers (channel_of event) m
  to_next run event rest None moment = giving_up run.past event moment
  to_next run event rest (Some m) moment = asked_is (all_shown (channel_of event) (run.past ++ event ∷ []) run.answers) _ _ m moment.1

  is_answer : (log : List Event) (run : Serving X C) (event : Event) (rest : List Event) (m : Option Message) → log ≡ run.past ++ event ∷ rest
      → Leads server first run → IsMoment server (with_event run event) event rest m
      → IsInTurn server first log run.answers (answer_of server (with_event run event) (channel_of event) m)
  is_answer log run event rest m logged leads moment = record {
    now = run.past ++ event ∷ [];
    later = rest;
    logged = logged ∙ sym (append_assoc run.past (event ∷ []) rest);
    to_next = to_next run event rest m moment;
    reply = ap (λ (x : X). message_reply server x (is_operators (channel_of event) (run.past ++ event ∷ [])) m) leads.all.state;
    command = refl;
    is_accepted = ap (λ (x : X). is_some (next_state server x a.command)) leads.all.state;
    commands = (leads_with server first now (channel_of event) m (record { all = leads.all; accepted = leads.accepted })).all.many;
    accepted = leads.accepted.many;
  }
    where
      now : Serving X C
      now = with_event run event

      a : Answer C
      a = answer_of server now (channel_of event) m

  -- what is known of a run with all its answers
  record Known (log : List Event) (run : Serving X C) (rest : List Event) : Type 0 where
    logged : log ≡ run.past ++ rest
    leads : Leads server first run
    each : Each (IsInTurn server first log) [] run.answers
    below : AllOf (λ (a : Answer C). a.commands ≤ run.commands) run.answers
    rises : Rises (λ (a : Answer C). a.commands) run.answers

  all_below : (n k : ℕ) (answers : List (Answer C)) → n ≤ k → AllOf (λ (a : Answer C). a.commands ≤ n) answers → AllOf (λ (a : Answer C). a.commands ≤ k) answers
  all_below n k [] le below = tt
  all_below n k (a ∷ answers) le below = (omega (arith, below.0, le), all_below n k answers le below.1)

  known_after : (log : List Event) (run : Serving X C) (event : Event) (rest : List Event) → Known log run (event ∷ rest) → Known log (after_event server run event rest) rest
  known_after log run event rest known =
      at_event server now event rest (λ (o : Option (Answer C)). Known log (with_answer server now o) rest)
      (λ up. same) (λ quiet. same) more
    where
      now : Serving X C
      now = with_event run event

      here : log ≡ (run.past ++ event ∷ []) ++ rest
      here = known.logged ∙ sym (append_assoc run.past (event ∷ []) rest)

      leads : Leads server first now
      leads = record { all = known.leads.all; accepted = known.leads.accepted }

      same : Known log now rest
      same = record { logged = here; leads = leads; each = known.each; below = known.below; rises = known.rises }

      more : (m : Option Message) → IsMoment server now event rest m → Known log (with_answer server now (Some (answer_of server now (channel_of event) m))) rest
      more m moment =
          let a = answer_of server now (channel_of event) m in
          let below = all_below run.commands a.commands run.answers (omega arith) known.below in
          record {
            logged = here;
            leads = leads_with server first now (channel_of event) m leads;
            each = each_more (IsInTurn server first log) [] run.answers a known.each (is_answer log run event rest m known.logged known.leads moment);
            below = all_more (λ (b : Answer C). b.commands ≤ a.commands) run.answers a below (omega arith);
            rises = rises_more (λ (b : Answer C). b.commands) run.answers a known.rises below;
          }

  known_on : (log : List Event) (run : Serving X C) (rest : List Event) → Known log run rest → Known log (serve_on server run rest) []
  known_on log run [] known = known
  known_on log run (event ∷ rest) known = known_on log (after_event server run event rest) rest (known_after log run event rest known)

  known : (log : List Event) → Known log (served_by server first log) []
  known log = known_on log (start_at first) log (record { logged = refl; leads = start_leads server first; each = tt; below = tt; rises = tt })

  pub all_answer : (log : List Event) → AllInTurn server first log (served_by server first log).answers
  all_answer log before after a is = each_at (IsInTurn server first log) [] before after a (subst (Each (IsInTurn server first log) []) is (known log).each)

  pub never_fall : (log : List Event) (channel : ℕ) → NeverFall (answers_to channel (served_by server first log).answers)
  never_fall log channel = AllPairs-filter (λ (a b : Answer C). a.commands ≤ b.commands) (is_to channel) (served_by server first log).answers
      (rises_pairs (λ (a : Answer C). a.commands) (served_by server first log).answers (known log).rises)

  module _ (goes_on : TalkGoesOn server.talk) (log : List Event) (channel : ℕ) where
    IsTo : ℕ → Answer C → Type 0
    IsTo j a = (m : Message) → a.message ≡ Some m → slice_get (server.talk (heard_bytes channel log)) j ≡ Some m

    is_to_next : (before : List (Answer C)) (a : Answer C) (m : Message) → (a.channel == channel) ≡ true → a.message ≡ Some m → IsInTurn server first log before a
        → slice_get (server.talk (heard_bytes channel log)) (length (answers_to channel before)) ≡ Some m
    is_to_next before a m own is answer =
        let c = eqb-true a.channel channel own in
        let next = subst (λ (o : Option Message). IsToNext server answer.now before a.channel o) is answer.to_next in
        let here = subst (λ (k : ℕ). slice_get (server.talk (heard_bytes k answer.now)) (length (answers_to k before)) ≡ Some m) c next.2 in
        let more = goes_on (heard_bytes channel answer.now) (heard_bytes channel answer.later) in
        ap (λ (l : List Event). slice_get (server.talk (heard_bytes channel l)) (length (answers_to channel before))) answer.logged
        ∙ ap (λ (l : List ℕ). slice_get (server.talk l) (length (answers_to channel before))) (heard_bytes-append channel answer.now answer.later)
        ∙ ap (λ (l : List Message). slice_get l (length (answers_to channel before))) (sym more.1)
        ∙ slice_get-front (server.talk (heard_bytes channel answer.now)) more.0 (length (answers_to channel before)) m here

    numbered : (before answers : List (Answer C)) (n : ℕ) → length (answers_to channel before) ≡ n → Each (IsInTurn server first log) before answers → EachNumber IsTo n (answers_to channel answers)
    unfolding IsTo
    numbered before [] n is each = tt
    numbered before (a ∷ answers) n is each = by_channel (λ k e. numbered (before ++ a ∷ []) answers k e each.1) (is_to channel a) refl
      where
        by_channel : ((k : ℕ) → length (answers_to channel (before ++ a ∷ [])) ≡ k → EachNumber IsTo k (answers_to channel answers)) → (b : Bool) → is_to channel a ≡ b → EachNumber IsTo n (if b then a ∷ answers_to channel answers else answers_to channel answers)
        by_channel later true own = (
          λ m is_m. subst (λ (k : ℕ). slice_get (server.talk (heard_bytes channel log)) k ≡ Some m) is (is_to_next before a m own is_m each.0),
          later (suc n) (ap length (answers_to-own channel before a own) ∙ length-append (answers_to channel before) (a ∷ []) ∙ (let e : length (answers_to channel before) + 1 ≡ suc n = omega (arith, is) in e)),
        )
        by_channel later false other = later n (ap length (answers_to-other channel before a other) ∙ is)

    pub are_to : AreTo (answers_to channel (served_by server first log).answers) (server.talk (heard_bytes channel log))
    unfolding IsTo
    are_to j a m at is =
        let behind : 0 + j ≡ j = omega arith in
        let to : IsTo (0 + j) a = number_at IsTo 0 j (answers_to channel (served_by server first log).answers) a (numbered [] (served_by server first log).answers 0 refl (known log).each) at in
        subst (λ (k : ℕ). IsTo k a) behind to m is
