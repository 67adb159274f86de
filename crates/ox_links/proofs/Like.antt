-- Servers whose states stand for one another have the same answers.
use Rattle.std.proofs.Common.{◌≡◌, ◌∙◌, ℕ, ◌+◌, Bool, List, [], ◌∷◌, ◌&&◌, not, length, Option, Some, None, if◌then◌else◌, refl, sym, ap, subst}
use Rattle.std.specs.Prelude.{is_some, unwrap_or, slice_get}
use Rattle.std.specs.Option.{option_map}
use Rattle.ox_outside.specs.Event.{Event, GaveUp, channel_of, heard_bytes, has_given_up}
use Rattle.ox_http.specs.Talk.{Message, asks, faults}
use Rattle.ox_links.specs.Alike.{SameRun, SameServer, SameTurn}
use Rattle.ox_links.specs.Link.{Answer, Written, all_shown, answers_to, asked_now, is_operators}
use Rattle.ox_links.specs.Serving.{Server, Serving, answer_of, answer_at, message_command, message_reply, next_state, with_answer, with_event, after_event, serve_on, served_by, start_at, one_if, gives_up}

-- the run with another state
abbrev with_state : {X Y C : Type 0} → Serving X C → Y → Serving Y C
with_state run state = record { past = run.past; state = state; commands = run.commands; accepted = run.accepted; answers = run.answers }

module _ {X Y C : Type 0} (stands_for : X → Y → Type 0) (one : Server X C) (two : Server Y C) (same : SameServer stands_for one two) where
  same_some : (s : Option X) (t : Option Y) → SameTurn stands_for s t → is_some t ≡ is_some s
  same_some None None is = refl
  same_some (Some x) (Some y) is = refl
  same_some None (Some y) is = absurd is
  same_some (Some x) None is = absurd is

  same_state : (x : X) (y : Y) (s : Option X) (t : Option Y) → stands_for x y → SameTurn stands_for s t → stands_for (unwrap_or s x) (unwrap_or t y)
  same_state x y None None here is = here
  same_state x y (Some s) (Some t) here is = is
  same_state x y None (Some t) here is = absurd is
  same_state x y (Some s) None here is = absurd is

  same_turn : (x : X) (y : Y) → stands_for x y → (o : Option C) → SameTurn stands_for (next_state one x o) (next_state two y o)
  same_turn x y here None = tt
  same_turn x y here (Some c) = same.turn x y here c

  same_command : (operator : Bool) (m : Option Message) → message_command two operator m ≡ message_command one operator m
  same_command operator (Some (asks request)) = same.command operator request
  same_command operator (Some (faults status)) = refl
  same_command operator None = refl

  same_reply : (x : X) (y : Y) → stands_for x y → (operator : Bool) (m : Option Message) → message_reply two y operator m ≡ message_reply one x operator m
  same_reply x y here operator (Some (asks request)) = same.reply x y here operator request
  same_reply x y here operator (Some (faults status)) = same.fault_reply status
  same_reply x y here operator None = same.unavailable

  module _ (run : Serving X C) (y : Y) (here : stands_for run.state y) (channel : ℕ) (m : Option Message) where
    abbrev answer_with : Written → Option C → Bool → Answer C
    answer_with reply command is_accepted = record {
      channel = channel;
      message = m;
      reply = reply;
      command = command;
      is_accepted = is_accepted;
      commands = run.commands + one_if (is_some command);
      accepted = run.accepted;
    }

    same_answer : answer_of two (with_state run y) channel m ≡ answer_of one run channel m
    same_answer =
        let operator = is_operators channel run.past in
        let c = message_command one operator m in
        ap (λ (r : Written). answer_with r (message_command two operator m) (is_some (next_state two y (message_command two operator m)))) (same_reply run.state y here operator m)
        ∙ ap (λ (k : Option C). answer_with (message_reply one run.state operator m) k (is_some (next_state two y k))) (same_command operator m)
        ∙ ap (λ (b : Bool). answer_with (message_reply one run.state operator m) c b) (same_some _ _ (same_turn run.state y here c))

  same_asked : (run : Serving X C) (channel : ℕ) → asked_now two.talk channel run.past run.answers ≡ asked_now one.talk channel run.past run.answers
  same_asked run channel =
      ap (λ (l : List Message). if all_shown channel run.past run.answers && not (has_given_up channel run.past) then slice_get l (length (answers_to channel run.answers)) else None)
      (same.talk (heard_bytes channel run.past))

  same_answers : (run : Serving X C) (y : Y) (here : stands_for run.state y) (channel : ℕ) (o : Option Message)
      → option_map (λ (m : Message). answer_of two (with_state run y) channel (Some m)) o ≡ option_map (λ (m : Message). answer_of one run channel (Some m)) o
  same_answers run y here channel None = refl
  same_answers run y here channel (Some m) = ap (λ (a : Answer C). Some a) (same_answer run y here channel (Some m))

  same_at : (run : Serving X C) (y : Y) (here : stands_for run.state y) (event : Event) (rest : List Event) → answer_at two (with_state run y) event rest ≡ answer_at one run event rest
  same_at run y here (GaveUp c) rest = ap (λ (a : Answer C). Some a) (same_answer run y here c None)
  same_at run y here event rest =
      ap (λ (o : Option (Answer C)). if gives_up (channel_of event) rest then None else o)
      (ap (λ (o : Option Message). option_map (λ (m : Message). answer_of two (with_state run y) (channel_of event) (Some m)) o) (same_asked run (channel_of event))
      ∙ same_answers run y here (channel_of event) (asked_now one.talk (channel_of event) run.past run.answers))

  -- a run goes on with a state that stands for this one's
  abbrev GoesWith : Serving X C → Serving Y C → Type 0
  GoesWith run other = (y : Y) × stands_for run.state y × (other ≡ with_state run y)

  with_same : (run : Serving X C) (y : Y) → stands_for run.state y → (o : Option (Answer C)) → GoesWith (with_answer one run o) (with_answer two (with_state run y) o)
  with_same run y here None = (y, here, refl)
  with_same run y here (Some a) = (unwrap_or (next_state two y a.command) y, same_state run.state y _ _ here (same_turn run.state y here a.command), refl)

  after_same : (run : Serving X C) (y : Y) → stands_for run.state y → (event : Event) (rest : List Event) → GoesWith (after_event one run event rest) (after_event two (with_state run y) event rest)
  after_same run y here event rest =
      let now = with_event run event in
      subst (λ (o : Option (Answer C)). GoesWith (after_event one run event rest) (with_answer two (with_state now y) o)) (sym (same_at now y here event rest))
      (with_same now y here (answer_at one now event rest))

  serve_same : (run : Serving X C) (y : Y) → stands_for run.state y → (log : List Event) → GoesWith (serve_on one run log) (serve_on two (with_state run y) log)
  serve_same run y here [] = (y, here, refl)
  serve_same run y here (event ∷ rest) =
      let next = after_same run y here event rest in
      subst (λ (r : Serving Y C). GoesWith (serve_on one (after_event one run event rest) rest) (serve_on two r rest)) (sym next.2)
      (serve_same (after_event one run event rest) next.0 next.1 rest)

pub serve_alike : {X Y C : Type 0} (stands_for : X → Y → Type 0) (one : Server X C) (two : Server Y C) → SameServer stands_for one two → (x : X) (y : Y) → stands_for x y → (log : List Event)
    → SameRun stands_for (served_by one x log) (served_by two y log)
serve_alike {Y = Y} {C = C} stands_for one two same x y here log =
    let is = serve_same stands_for one two same (start_at x) y here log in
    record {
      past = ap (λ (r : Serving Y C). r.past) is.2;
      state = subst (λ (z : Y). stands_for (served_by one x log).state z) (sym (ap (λ (r : Serving Y C). r.state) is.2)) is.1;
      commands = ap (λ (r : Serving Y C). r.commands) is.2;
      accepted = ap (λ (r : Serving Y C). r.accepted) is.2;
      answers = ap (λ (r : Serving Y C). r.answers) is.2;
    }
