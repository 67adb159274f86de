-- A log that goes on, but not by giving up what was asked before, leaves the answers so far.
use Rattle.std.proofs.Common.{◌≡◌, ◌∙◌, ℕ, Bool, true, false, List, [], ◌∷◌, ◌++◌, ◌==◌, ◌||◌, if◌then◌else◌, Option, Some, None, refl, sym, ap, subst, append_assoc}
use Rattle.std.proofs.lemmas.List.{append-nil}
use Rattle.ox_outside.specs.Event.{Event, GaveUp, channel_of}
use Rattle.ox_links.specs.Link.{Answer}
use Rattle.ox_links.specs.Serving.{Server, Serving, answer_at, with_answer, with_event, after_event, serve_on, gives_up}
use Rattle.ox_outside.specs.Shown.{IsFrontOf}

chosen : (b x y : Bool) → x ≡ y → (if b then false else x) ≡ (if b then false else y)
chosen true x y is = refl
chosen false x y is = is

either : (b x y : Bool) → x ≡ y → (b || x) ≡ (b || y)
either true x y is = refl
either false x y is = is

gives_up-append : (channel : ℕ) (log more : List Event) → gives_up channel more ≡ false → gives_up channel (log ++ more) ≡ gives_up channel log
gives_up-append channel [] more none = none
gives_up-append channel (GaveUp c ∷ log) more none = either (c == channel) _ _ (gives_up-append channel log more none)
gives_up-append channel (event ∷ log) more none = chosen (channel_of event == channel) _ _ (gives_up-append channel log more none)

unless : {A : Type 0} (o : Option A) (b c : Bool) → b ≡ c → (if b then None else o) ≡ (if c then None else o)
unless o b c is = ap (λ (x : Bool). if x then None else o) is

answer_at-append : {X C : Type 0} (server : Server X C) (run : Serving X C) (event : Event) (log more : List Event) → ((channel : ℕ) → gives_up channel more ≡ false) → answer_at server run event (log ++ more) ≡ answer_at server run event log
answer_at-append server run (GaveUp c) log more none = refl
answer_at-append server run event log more none = unless _ (gives_up (channel_of event) (log ++ more)) (gives_up (channel_of event) log) (gives_up-append (channel_of event) log more (none (channel_of event)))

after_event-append : {X C : Type 0} (server : Server X C) (run : Serving X C) (event : Event) (log more : List Event) → ((channel : ℕ) → gives_up channel more ≡ false) → after_event server run event (log ++ more) ≡ after_event server run event log
after_event-append {C = C} server run event log more none = ap (λ (o : Option (Answer C)). with_answer server (with_event run event) o) (answer_at-append server (with_event run event) event log more none)

pub serve_on-append : {X C : Type 0} (server : Server X C) (run : Serving X C) (log more : List Event) → ((channel : ℕ) → gives_up channel more ≡ false) → serve_on server run (log ++ more) ≡ serve_on server (serve_on server run log) more
serve_on-append server run [] more none = refl
serve_on-append server run (event ∷ log) more none = ap (λ (r : Serving _ _). serve_on server r (log ++ more)) (after_event-append server run event log more none) ∙ serve_on-append server (after_event server run event log) log more none

front_then : {A : Type 0} (x y z : List A) → IsFrontOf x y → IsFrontOf y z → IsFrontOf x z
front_then x y z xy yz = (xy.0 ++ yz.0, sym (append_assoc x xy.0 yz.0) ∙ ap (λ (l : List _). l ++ yz.0) xy.1 ∙ yz.1)

answer_front : {X C : Type 0} (server : Server X C) (run : Serving X C) (answer : Option (Answer C)) → IsFrontOf run.answers (with_answer server run answer).answers
answer_front server run None = ([], append-nil run.answers)
answer_front server run (Some answer) = (answer ∷ [], refl)

pub serve_on_front : {X C : Type 0} (server : Server X C) (run : Serving X C) (log : List Event) → IsFrontOf run.answers (serve_on server run log).answers
serve_on_front server run [] = ([], append-nil run.answers)
serve_on_front server run (event ∷ log) =
    let next = after_event server run event log in
    front_then run.answers next.answers (serve_on server next log).answers
    (answer_front server (with_event run event) (answer_at server (with_event run event) event log)) (serve_on_front server next log)

with_past : {X C : Type 0} (server : Server X C) (run : Serving X C) (o : Option (Answer C)) → (with_answer server run o).past ≡ run.past
with_past server run None = refl
with_past server run (Some answer) = refl

pub after_past : {X C : Type 0} (server : Server X C) (run : Serving X C) (event : Event) (rest : List Event) → (after_event server run event rest).past ≡ run.past ++ event ∷ []
after_past server run event rest = with_past server (with_event run event) (answer_at server (with_event run event) event rest)

pub past_is : {X C : Type 0} (server : Server X C) (run : Serving X C) (log : List Event) → (serve_on server run log).past ≡ run.past ++ log
past_is server run [] = sym (append-nil run.past)
past_is server run (event ∷ log) =
    past_is server (after_event server run event log) log ∙ ap (λ (l : List Event). l ++ log) (after_past server run event log) ∙ append_assoc run.past (event ∷ []) log

pub serve_on_keeps : {X C : Type 0} (server : Server X C) (run : Serving X C) (log more : List Event) → ((channel : ℕ) → gives_up channel more ≡ false) → IsFrontOf (serve_on server run log).answers (serve_on server run (log ++ more)).answers
serve_on_keeps server run log more none =
    let front = serve_on server run log in
    subst (λ (r : Serving _ _). IsFrontOf front.answers r.answers) (sym (serve_on-append server run log more none)) (serve_on_front server front more)
