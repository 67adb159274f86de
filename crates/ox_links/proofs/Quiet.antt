-- A link whose answers are all shown asks nothing, where no reply is empty.
use Rattle.std.proofs.Common.{◌≡◌, ◌∙◌, ◌≤◌, ◌==◌, ℕ, Bool, true, false, List, [], ◌∷◌, ◌++◌, ◌||◌, length, Option, Some, None, if◌then◌else◌, refl, sym, ap, subst, arith, length-append}
use Rattle.std.specs.Prelude.{IsTrue, slice_get, bytes_eq}
use Rattle.std.proofs.lemmas.Bool.{eq-eqb, eqb-true}
use Rattle.std.proofs.lemmas.Slice.Eq.{bytes_eq-Decides}
use Rattle.std.proofs.lemmas.Grind.{flat_map-append}
use Rattle.std.proofs.lemmas.List.{append-nil}
use Rattle.ox_outside.specs.Event.{Event, GaveUp, channel_of, heard_bytes, shown_bytes, has_given_up}
use Rattle.ox_http.specs.Talk.{Message, asks, faults}
use Rattle.ox_links.specs.Link.{Answer, all_shown, answers_to, asked_now, reply_bytes}
use Rattle.ox_links.specs.Quiet.{Speaks}
use Rattle.ox_links.specs.Serving.{Server, Serving, answer_of, with_answer, with_event, after_event, serve_on, served_by, start_at, message_reply, gives_up}
use Rattle.ox_links.proofs.Answered.{asked_is, giving_up}
use Rattle.ox_links.proofs.Apart.{after_event_apart, answers_to-own}
use Rattle.ox_links.proofs.Asked.{asked-same, asked-given_up, heard-other, shown-other, given_up-other}
use Rattle.ox_links.proofs.GoingOn.{after_past, past_is}
use Rattle.ox_links.proofs.Moments.{at_event, IsMoment}

-- the next event of a link, behind one of another
pub gives_up-other : (channel : ℕ) (event : Event) (rest : List Event) → (channel_of event == channel) ≡ false → gives_up channel (event ∷ rest) ≡ gives_up channel rest
gives_up-other channel (GaveUp c) rest other = ap (λ (b : Bool). b || gives_up channel rest) other
gives_up-other channel event rest other = ap (λ (b : Bool). if b then false else gives_up channel rest) other

equal_bytes : (x y : List ℕ) → bytes_eq x y ≡ true → x ≡ y
equal_bytes x y is = (bytes_eq-Decides x y).0 is

pub reply_bytes-own : {C : Type 0} (channel : ℕ) (answers : List (Answer C)) (a : Answer C) → (a.channel == channel) ≡ true → reply_bytes (answers_to channel (answers ++ a ∷ [])) ≡ reply_bytes (answers_to channel answers) ++ a.reply.bytes
reply_bytes-own {C = C} channel answers a own =
    ap (λ (l : List (Answer C)). reply_bytes l) (answers_to-own channel answers a own)
    ∙ flat_map-append (λ (x : Answer C). x.reply.bytes) (answers_to channel answers) (a ∷ [])
    ∙ ap (λ (l : List ℕ). reply_bytes (answers_to channel answers) ++ l) (append-nil a.reply.bytes)

module _ {X C : Type 0} (server : Server X C) (first : X) (speaks : Speaks server) where
  not_empty : (state : X) (operator : Bool) (m : Option Message) → 1 ≤ length (message_reply server state operator m).bytes
  not_empty state operator (Some (asks request)) = speaks.reply state operator request
  not_empty state operator (Some (faults status)) = speaks.fault_reply status
  not_empty state operator None = speaks.unavailable

  -- unless it gives up next, a link asks nothing once all is shown
  abbrev IsQuiet : ℕ → Serving X C → List Event → Type 0
  IsQuiet channel run rest = gives_up channel rest ≡ false → all_shown channel run.past run.answers ≡ true → asked_now server.talk channel run.past run.answers ≡ None

  too_long : (x y z : List ℕ) → 1 ≤ length y → bytes_eq x z ≡ true → bytes_eq (x ++ y) z ≡ true → ⊥
  too_long x y z some is is_more =
      let e : length x ≡ length z = ap length (equal_bytes x z is) in
      let f : length (x ++ y) ≡ length z = ap length (equal_bytes (x ++ y) z is_more) in
      omega (arith, some, e, f, length-append x y)

  quiet_own : (run : Serving X C) (event : Event) (rest : List Event) → IsQuiet (channel_of event) (after_event server run event rest) rest
  quiet_own run event rest =
      at_event server now event rest (λ (o : Option (Answer C)). IsQuiet (channel_of event) (with_answer server now o) rest)
      (λ up none shown. absurd (let e : true ≡ false = sym up ∙ none in cc e)) (λ quiet none shown. quiet) answered
    where
      now : Serving X C
      now = with_event run event

      answered : (m : Option Message) → IsMoment server now event rest m → IsQuiet (channel_of event) (with_answer server now (Some (answer_of server now (channel_of event) m))) rest
      answered None moment none shown = asked-given_up server.talk (heard_bytes (channel_of event) now.past) (shown_bytes (channel_of event) now.past) _ (has_given_up (channel_of event) now.past) _ (giving_up run.past event moment)
      answered (Some m) moment none shown =
          let c = channel_of event in
          let a = answer_of server now c (Some m) in
          let before = asked_is (all_shown c now.past run.answers) _ _ m moment.1 in
          let after = ap (λ (l : List ℕ). bytes_eq l (shown_bytes c now.past)) (sym (reply_bytes-own c run.answers a (eq-eqb c c refl))) ∙ shown in
          absurd (too_long (reply_bytes (answers_to c run.answers)) a.reply.bytes (shown_bytes c now.past) (not_empty _ _ (Some m)) before.0 after)

  quiet_other : (channel : ℕ) (run : Serving X C) (event : Event) (rest : List Event) → (channel_of event == channel) ≡ false → IsQuiet channel run (event ∷ rest) → IsQuiet channel (after_event server run event rest) rest
  quiet_other channel run event rest other quiet none shown =
      let next = after_event server run event rest in
      let past : next.past ≡ run.past ++ event ∷ [] = after_past server run event rest in
      let answers = after_event_apart server channel run event rest other in
      let heard_same = ap (λ (l : List Event). heard_bytes channel l) past ∙ heard-other channel run.past event other in
      let shown_same = ap (λ (l : List Event). shown_bytes channel l) past ∙ shown-other channel run.past event other in
      let up_same = ap (λ (l : List Event). has_given_up channel l) past ∙ given_up-other channel run.past event other in
      let replies = ap (λ (l : List (Answer C)). reply_bytes l) answers in
      asked-same server.talk _ (heard_bytes channel run.past) _ (shown_bytes channel run.past) _ (has_given_up channel run.past) _ (reply_bytes (answers_to channel run.answers)) _ (length (answers_to channel run.answers))
      heard_same shown_same up_same replies (ap (λ (l : List (Answer C)). length l) answers)
      ∙ quiet (gives_up-other channel event rest other ∙ none)
      (ap (λ (l : List ℕ). bytes_eq l (shown_bytes channel run.past)) (sym replies) ∙ ap (λ (l : List ℕ). bytes_eq (reply_bytes (answers_to channel next.answers)) l) (sym shown_same) ∙ shown)

  quiet_after : (channel : ℕ) (run : Serving X C) (event : Event) (rest : List Event) (b : Bool) → (channel_of event == channel) ≡ b → IsQuiet channel run (event ∷ rest) → IsQuiet channel (after_event server run event rest) rest
  quiet_after channel run event rest true own quiet = subst (λ (c : ℕ). IsQuiet c (after_event server run event rest) rest) (eqb-true (channel_of event) channel own) (quiet_own run event rest)
  quiet_after channel run event rest false other quiet = quiet_other channel run event rest other quiet

  quiet_on : (channel : ℕ) (run : Serving X C) (rest : List Event) → IsQuiet channel run rest → IsQuiet channel (serve_on server run rest) []
  quiet_on channel run [] quiet = quiet
  quiet_on channel run (event ∷ rest) quiet = quiet_on channel (after_event server run event rest) rest (quiet_after channel run event rest (channel_of event == channel) refl quiet)

  quiet_from : (log : List Event) (channel : ℕ) → IsQuiet channel (served_by server first log) []
  quiet_from log channel = quiet_on channel (start_at first) log (λ none shown. ap (λ (l : List Message). slice_get l 0) speaks.nothing)

pub asks_nothing : {X C : Type 0} (server : Server X C) (first : X) → Speaks server → (log : List Event) (channel : ℕ) → IsTrue (all_shown channel log (served_by server first log).answers) → asked_now server.talk channel log (served_by server first log).answers ≡ None
asks_nothing server first speaks log channel shown =
    let run = served_by server first log in
    let past : run.past ≡ log = past_is server (start_at first) log in
    ap (λ (l : List Event). asked_now server.talk channel l run.answers) (sym past)
    ∙ quiet_from server first speaks log channel refl (ap (λ (l : List Event). all_shown channel l run.answers) past ∙ shown)
