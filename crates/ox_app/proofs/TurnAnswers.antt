-- What a turn adds to the answers of a run, and to the way of a desk.
use Rattle.std.proofs.Common.{◌≡◌, ◌∙◌, ℕ, ◌==◌, Bool, true, false, List, [], ◌∷◌, ◌++◌, ◌&&◌, ◌||◌, not, Option, Some, None, if◌then◌else◌, inl, inr, refl, sym, ap, subst, append_assoc, arith, ◌≤◌}
use Rattle.std.specs.Prelude.{IsTrue, slice_get, length, is_some}
use Rattle.std.specs.Option.{option_map}
use Rattle.std.proofs.lemmas.Bool.{eq-eqb, eqb-true}
use Rattle.std.proofs.lemmas.List.{append-nil}
use Rattle.ox_outside.specs.Event.{Event, Opened, Heard, Ended, Showed, Broke, GaveUp, Shut, heard_bytes, shown_bytes, has_given_up}
use Rattle.ox_outside.specs.declared.site.Doorway.{Doorway}
use Rattle.ox_outside.proofs.Event.{has_given_up-append, heard_bytes-append, shown_bytes-append}
use Rattle.ox_http.specs.declared.Request.{Request}
use Rattle.ox_http.specs.Talk.{Message, asks, faults, talk, talk_behind}
use Rattle.ox_http.specs.Written.{written}
use Rattle.ox_links.specs.GoesOn.{GoesOnWithout}
use Rattle.ox_links.specs.Link.{Answer, all_shown, answers_to, asked_now, is_operator, is_operators, reply_bytes}
use Rattle.ox_links.specs.Quiet.{Speaks}
use Rattle.ox_links.specs.Rotation.{door_of, link_of}
use Rattle.ox_links.specs.Serving.{Server, Serving, answer_at, answer_of, after_event, gives_up, message_command, message_reply, next_state, served_by, start_at, with_answer, with_event}
use Rattle.ox_links.specs.Turned.{IsTurn, is_first}
use Rattle.ox_links.proofs.Asked.{asked-same}
use Rattle.ox_links.proofs.GoingOn.{past_is, serve_on-append}
use Rattle.ox_links.proofs.Quiet.{asks_nothing}
use Rattle.ox_turns.specs.Desk.{IsHttp}
use Rattle.ox_turns.specs.Turn.{DeskAnswers, DeskTurns}
use Rattle.ox_app.specs.Along.{AnsweredBy, ByMessage, GoesAlong}

-- who replies as HTTP/1.1 does speaks
pub http_speaks : {X C : Type 0} (server : Server X C) → IsHttp server → Speaks server
unfolding talk talk_behind written
http_speaks server http = record {
  nothing = http.talk [] ∙ refl;
  fault_reply = λ status. subst (λ (l : List ℕ). 1 ≤ length l) (sym (http.fault_bytes status)) (omega arith);
  unavailable = subst (λ (l : List ℕ). 1 ≤ length l) (sym http.unavailable_bytes) (omega arith);
  reply = http.reply_speaks;
}

left_true : (a b : Bool) → (a && b) ≡ true → a ≡ true
left_true true b is = refl
left_true false b is = is

or_false : (b : Bool) → (b || false) ≡ b
or_false true = refl
or_false false = refl

none_chosen : (b : Bool) → (if b then false else false) ≡ false
none_chosen true = refl
none_chosen false = refl

-- ---- whether a link is an operator's

chosen : (b x : Bool) (y z : Bool) → y ≡ z → (if b then x else y) ≡ (if b then x else z)
chosen true x y z is = refl
chosen false x y z is = is

operators_still : (c : ℕ) (past more : List Event) → is_operators c more ≡ false → is_operators c (past ++ more) ≡ is_operators c past
operators_still c [] more is = is
operators_still c (Opened d door ∷ past) more is = chosen (d == c) (is_operator door) _ _ (operators_still c past more is)
operators_still c (Heard d bytes ∷ past) more is = operators_still c past more is
operators_still c (Ended d ∷ past) more is = operators_still c past more is
operators_still c (Showed d bytes ∷ past) more is = operators_still c past more is
operators_still c (Broke d ∷ past) more is = operators_still c past more is
operators_still c (GaveUp d ∷ past) more is = operators_still c past more is
operators_still c (Shut d ∷ past) more is = operators_still c past more is

first_opens_none : (c : ℕ) (due : Bool) (event : Event) → IsTrue (is_first c due event) → is_operators c (event ∷ []) ≡ false
first_opens_none c due (Opened d door) is = absurd (cc is)
first_opens_none c due (Heard d bytes) is = refl
first_opens_none c due (Ended d) is = refl
first_opens_none c due (Showed d bytes) is = refl
first_opens_none c due (Broke d) is = refl
first_opens_none c due (GaveUp d) is = absurd (cc is)
first_opens_none c due (Shut d) is = absurd (cc is)

-- ---- an event of a link

module _ {X C : Type 0} (server : Server X C) where
  -- what an event of this link brings, unless the link gives up next
  abbrev BroughtBy : Serving X C → ℕ → List Event → Option (Answer C)
  BroughtBy run c rest = if gives_up c rest then None else option_map (λ (m : Message). answer_of server run c (Some m)) (asked_now server.talk c run.past run.answers)

  first_brings : (run : Serving X C) (c : ℕ) (due : Bool) (event : Event) (rest : List Event) → IsTrue (is_first c due event) → answer_at server run event rest ≡ BroughtBy run c rest
  first_brings run c due (Opened d door) rest is = absurd (cc is)
  first_brings run c due (Heard d bytes) rest is = ap (λ (k : ℕ). BroughtBy run k rest) (eqb-true d c (left_true (d == c) _ is))
  first_brings run c due (Ended d) rest is = ap (λ (k : ℕ). BroughtBy run k rest) (eqb-true d c (left_true (d == c) _ is))
  first_brings run c due (Showed d bytes) rest is = ap (λ (k : ℕ). BroughtBy run k rest) (eqb-true d c (left_true (d == c) _ is))
  first_brings run c due (Broke d) rest is = ap (λ (k : ℕ). BroughtBy run k rest) (eqb-true d c is)
  first_brings run c due (GaveUp d) rest is = absurd (cc is)
  first_brings run c due (Shut d) rest is = absurd (cc is)

-- ---- events that bring no answer

module _ {X C : Type 0} (server : Server X C) (speaks : Speaks server) (first : X) where
  abbrev run : List Event → Serving X C
  run log = served_by server first log

  -- behind a whole log a link asks nothing
  rests_then : (log : List Event) (c : ℕ) → asked_now server.talk c log (run log).answers ≡ None
  rests_then log c = by (all_shown c log (run log).answers) refl
    where
      by : (b : Bool) → all_shown c log (run log).answers ≡ b → asked_now server.talk c log (run log).answers ≡ None
      by true is = asks_nothing server first speaks log c is
      by false is = ap (λ (b : Bool). if b && not (has_given_up c log) then slice_get (server.talk (heard_bytes c log)) (length (answers_to c (run log).answers)) else None) is

  -- an event of which nothing is heard or shown
  says_nothing : (log : List Event) (c : ℕ) (event : Event) → heard_bytes c (event ∷ []) ≡ [] → shown_bytes c (event ∷ []) ≡ [] → has_given_up c (event ∷ []) ≡ false
      → asked_now server.talk c (log ++ event ∷ []) (run log).answers ≡ None
  says_nothing log c event unheard unshown whole =
      asked-same server.talk _ (heard_bytes c log) _ (shown_bytes c log) _ (has_given_up c log) _ (reply_bytes (answers_to c (run log).answers)) _ (length (answers_to c (run log).answers))
      (heard_bytes-append c log (event ∷ []) ∙ ap (λ (l : List ℕ). heard_bytes c log ++ l) unheard ∙ append-nil (heard_bytes c log))
      (shown_bytes-append c log (event ∷ []) ∙ ap (λ (l : List ℕ). shown_bytes c log ++ l) unshown ∙ append-nil (shown_bytes c log))
      (has_given_up-append c log (event ∷ []) ∙ ap (λ (b : Bool). has_given_up c log || b) whole ∙ or_false (has_given_up c log))
      refl refl
      ∙ rests_then log c

  past_of : (log : List Event) → (run log).past ≡ log
  past_of log = past_is server (start_at first) log

  -- such an event brings no answer
  no_answer : (log : List Event) (c : ℕ) (event : Event) → GoesOnWithout (event ∷ []) → heard_bytes c (event ∷ []) ≡ [] → shown_bytes c (event ∷ []) ≡ [] → has_given_up c (event ∷ []) ≡ false
      → ((r : Serving X C) → answer_at server r event [] ≡ option_map (λ (m : Message). answer_of server r c (Some m)) (asked_now server.talk c r.past r.answers))
      → (run (log ++ event ∷ [])).answers ≡ (run log).answers
  no_answer log c event goes unheard unshown whole brings =
      ap (λ (r : Serving X C). r.answers) (serve_on-append server (start_at first) log (event ∷ []) goes)
      ∙ ap (λ (o : Option (Answer C)). (with_answer server (with_event (run log) event) o).answers) (brings (with_event (run log) event))
      ∙ ap (λ (o : Option Message). (with_answer server (with_event (run log) event) (option_map (λ (m : Message). answer_of server (with_event (run log) event) c (Some m)) o)).answers)
      (ap (λ (l : List Event). asked_now server.talk c (l ++ event ∷ []) (run log).answers) (past_of log) ∙ says_nothing log c event unheard unshown whole)

  pub shut_adds_none : (log : List Event) (c : ℕ) → (run (log ++ Shut c ∷ [])).answers ≡ (run log).answers
  shut_adds_none log c = no_answer log c (Shut c) (λ channel. none_chosen (c == channel)) refl refl refl (λ r. refl)

  pub opened_adds_none : (log : List Event) (c : ℕ) (door : Doorway) → (run (log ++ Opened c door ∷ [])).answers ≡ (run log).answers
  opened_adds_none log c door = no_answer log c (Opened c door) (λ channel. none_chosen (c == channel)) refl refl refl (λ r. refl)

-- ---- the events of a turn

same_or : (b : Bool) → (if b then false else (b || false)) ≡ false
same_or true = refl
same_or false = refl

-- a link's first event is none of giving up
first_goes : (c : ℕ) (due : Bool) (event : Event) → IsTrue (is_first c due event) → GoesOnWithout (event ∷ [])
first_goes c due (Opened d door) is channel = absurd (cc is)
first_goes c due (Heard d bytes) is channel = none_chosen (d == channel)
first_goes c due (Ended d) is channel = none_chosen (d == channel)
first_goes c due (Showed d bytes) is channel = none_chosen (d == channel)
first_goes c due (Broke d) is channel = none_chosen (d == channel)
first_goes c due (GaveUp d) is channel = absurd (cc is)
first_goes c due (Shut d) is channel = absurd (cc is)

-- nor does a link give up before its first event of the turn
up_goes : (c d channel : ℕ) → d ≡ c → (if d == channel then false else ((c == channel) || false)) ≡ false
up_goes c d channel is = ap (λ (k : ℕ). if k == channel then false else ((c == channel) || false)) is ∙ same_or (c == channel)

first_goes_up : (c : ℕ) (due : Bool) (event : Event) → IsTrue (is_first c due event) → GoesOnWithout (event ∷ GaveUp c ∷ [])
first_goes_up c due (Opened d door) is channel = absurd (cc is)
first_goes_up c due (Heard d bytes) is channel = up_goes c d channel (eqb-true d c (left_true (d == c) _ is))
first_goes_up c due (Ended d) is channel = up_goes c d channel (eqb-true d c (left_true (d == c) _ is))
first_goes_up c due (Showed d bytes) is channel = up_goes c d channel (eqb-true d c (left_true (d == c) _ is))
first_goes_up c due (Broke d) is channel = up_goes c d channel (eqb-true d c is)
first_goes_up c due (GaveUp d) is channel = absurd (cc is)
first_goes_up c due (Shut d) is channel = absurd (cc is)

-- What a run's log gains, with the way of a desk along the answers that this brings.
pub record Goes {X C D : Type 0} (server : Server X C) (first : X) (state : D → X) (moved : D → Request → Bool → D → Type 0) (same : D → D → Type 0)
    (since events : List Event) (old new : D) : Type 0 where
  pub answers : List (Answer C)
  pub answered : (served_by server first (since ++ events)).answers ≡ (served_by server first since).answers ++ answers
  pub goes : GoesAlong server state moved same (served_by server first since).accepted old answers new

module _ {X C D : Type 0} (server : Server X C) (speaks : Speaks server) (first : X) (state : D → X) (moved : D → Request → Bool → D → Type 0) (same : D → D → Type 0)
    (since : List Event) (old new : D) where
  abbrev so_far : Serving X C
  so_far = served_by server first since

  abbrev WentAlong : List Event → Type 0
  WentAlong events = Goes server first state moved same since events old new

  -- no event brings an answer
  went_none : (events : List Event) → (served_by server first (since ++ events)).answers ≡ so_far.answers → new ≡ old → WentAlong events
  went_none events is stays = record { answers = []; answered = is ∙ sym (append-nil so_far.answers); goes = stays }

  -- one does
  led_one : (r : Serving X C) (c : ℕ) (m : Option Message) → state old ≡ r.state → ByMessage moved same (is_operators c r.past) m old new
      → GoesAlong server state moved same r.accepted old (answer_of server r c m ∷ []) new
  led_one r c m is by = (new, answered, refl)
    where
      answered : AnsweredBy server state moved same r.accepted old (answer_of server r c m) new
      answered = record {
        operator = is_operators c r.past;
        reply = ap (λ (x : X). message_reply server x (is_operators c r.past) m) (sym is);
        command = refl;
        is_accepted = ap (λ (x : X). is_some (next_state server x (message_command server (is_operators c r.past) m))) (sym is);
        accepted_before = refl;
        desk = by;
      }

  went_one : (events : List Event) (r : Serving X C) (c : ℕ) (m : Option Message) → (served_by server first (since ++ events)).answers ≡ so_far.answers ++ answer_of server r c m ∷ []
      → r.accepted ≡ so_far.accepted → state old ≡ r.state → ByMessage moved same (is_operators c r.past) m old new → WentAlong events
  went_one events r c m is many state_is by = record {
    answers = answer_of server r c m ∷ [];
    answered = is;
    goes = subst (λ (k : ℕ). GoesAlong server state moved same k old (answer_of server r c m ∷ []) new) many (led_one r c m state_is by);
  }

  by_message : (operator : Bool) (m : Message) → DeskAnswers moved same operator false (Some m) old new → ByMessage moved same operator (Some m) old new
  by_message operator (asks request) is = is
  by_message operator (faults status) is = is

  by_none : (before after : Bool) (o : Option Message) → DeskAnswers moved same before true o old new → ByMessage moved same after None old new
  by_none before after (Some (asks request)) is = is
  by_none before after (Some (faults status)) is = inl is
  by_none before after None is = inl is

  -- ---- the turn of a link

  module _ (c : ℕ) (due : Bool) (event : Event) (is : IsTrue (is_first c due event)) (state_is : state old ≡ so_far.state) where
    abbrev now : Serving X C
    now = with_event so_far event

    abbrev operator : Bool
    operator = is_operators c so_far.past

    abbrev asked : Option Message
    asked = asked_now server.talk c now.past so_far.answers

    operator_is : is_operators c now.past ≡ operator
    operator_is = operators_still c so_far.past (event ∷ []) (first_opens_none c due event is)

    -- what the event brings by itself
    alone_is : (o : Option Message) → asked ≡ o → (served_by server first (since ++ event ∷ [])).answers ≡ (with_answer server now (option_map (λ (m : Message). answer_of server now c (Some m)) o)).answers
    alone_is o asks_so =
        ap (λ (r : Serving X C). r.answers) (serve_on-append server (start_at first) since (event ∷ []) (first_goes c due event is))
        ∙ ap (λ (o : Option (Answer C)). (with_answer server now o).answers) (first_brings server now c due event [] is)
        ∙ ap (λ (o : Option Message). (with_answer server now (option_map (λ (m : Message). answer_of server now c (Some m)) o)).answers) asks_so

    alone_by : (o : Option Message) → asked ≡ o → DeskAnswers moved same operator false o old new → WentAlong (event ∷ [])
    alone_by None asks_so by = went_none (event ∷ []) (alone_is None asks_so) by
    alone_by (Some m) asks_so by =
        went_one (event ∷ []) now c (Some m) (alone_is (Some m) asks_so) refl state_is
        (subst (λ (b : Bool). ByMessage moved same b (Some m) old new) (sym operator_is) (by_message operator m by))

    alone : DeskAnswers moved same operator false asked old new → WentAlong (event ∷ [])
    alone by = alone_by asked refl by

    -- it is shut then
    shut_then : WentAlong (event ∷ []) → WentAlong (event ∷ Shut c ∷ [])
    shut_then went = record {
      answers = went.answers;
      answered = ap (λ (l : List Event). (served_by server first l).answers) (sym (append_assoc since (event ∷ []) (Shut c ∷ [])))
          ∙ shut_adds_none server speaks first (since ++ event ∷ []) c ∙ went.answered;
      goes = went.goes;
    }

    -- it gives up then
    abbrev up : List Event
    up = GaveUp c ∷ []

    gives_up_now : gives_up c up ≡ true
    gives_up_now = ap (λ (b : Bool). b || false) (eq-eqb c c refl)

    up_is : (served_by server first (since ++ event ∷ up)).answers ≡ so_far.answers ++ answer_of server (with_event now (GaveUp c)) c None ∷ []
    up_is =
        ap (λ (r : Serving X C). r.answers) (serve_on-append server (start_at first) since (event ∷ up) (first_goes_up c due event is))
        ∙ ap (λ (o : Option (Answer C)). (after_event server (with_answer server now o) (GaveUp c) []).answers)
        (first_brings server now c due event up is ∙ ap (λ (b : Bool). if b then None else option_map (λ (m : Message). answer_of server now c (Some m)) asked) gives_up_now)

    up_then : DeskAnswers moved same operator true asked old new → WentAlong (event ∷ up)
    up_then by = went_one (event ∷ up) (with_event now (GaveUp c)) c None up_is refl state_is (by_none operator (is_operators c (with_event now (GaveUp c)).past) asked by)

  link_more : (c : ℕ) (event : Event) (rest : List Event) → IsTurn server first since (link_of c) (event ∷ rest) → state old ≡ so_far.state
      → DeskTurns moved same server so_far c (event ∷ rest) old new → WentAlong (event ∷ rest)
  link_more c event rest (is, inl shut) state_is by = ends _ shut
    where
      ends : (over : Bool) → rest ≡ (if over then Shut c ∷ [] else []) → WentAlong (event ∷ rest)
      ends true so =
          let by_this = subst (λ (b : Bool). DeskAnswers moved same (operator c _ event is state_is) b (asked c _ event is state_is) old new) (ap (gives_up c) so ∙ none_chosen (c == c)) by in
          subst (λ (l : List Event). WentAlong (event ∷ l)) (sym so) (shut_then c _ event is state_is (alone c _ event is state_is by_this))
      ends false so =
          let by_this = subst (λ (b : Bool). DeskAnswers moved same (operator c _ event is state_is) b (asked c _ event is state_is) old new) (ap (gives_up c) so) by in
          subst (λ (l : List Event). WentAlong (event ∷ l)) (sym so) (alone c _ event is state_is by_this)
  link_more c event rest (is, inr given) state_is by =
      let by_this = subst (λ (b : Bool). DeskAnswers moved same (operator c _ event is state_is) b (asked c _ event is state_is) old new) (ap (gives_up c) given.0 ∙ gives_up_now c _ event is state_is) by in
      subst (λ (l : List Event). WentAlong (event ∷ l)) (sym given.0) (up_then c _ event is state_is by_this)

  idle : new ≡ old → WentAlong []
  idle by = went_none [] (ap (λ (l : List Event). (served_by server first l).answers) (append-nil since)) by

  -- what a link's turn makes
  pub link_went : (c : ℕ) (events : List Event) → IsTurn server first since (link_of c) events → state old ≡ so_far.state → DeskTurns moved same server so_far c events old new → WentAlong events
  link_went c [] turn state_is by = idle by
  link_went c (event ∷ rest) turn state_is by = link_more c event rest turn state_is by

  -- and a door's
  pub door_went : (door : Doorway) (events : List Event) → IsTurn server first since (door_of door) events → new ≡ old → WentAlong events
  door_went door [] turn by = idle by
  door_went door (event ∷ rest) turn by =
      subst (λ (l : List Event). WentAlong (event ∷ l)) (sym turn.1)
      (subst (λ (e : Event). WentAlong (e ∷ [])) (sym turn.0.1) (went_none (Opened turn.0.0 door ∷ []) (opened_adds_none server speaks first since turn.0.0 door) by))
