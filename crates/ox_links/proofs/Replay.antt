-- The replies to a link by its own events, and by the commands that were accepted before each answer.
use Rattle.std.proofs.Common.{◌≡◌, ◌∙◌, ◌==◌, ℕ, ◌+◌, Bool, true, false, List, [], ◌∷◌, ◌++◌, ◌||◌, length, map, take, Option, Some, None, if◌then◌else◌, refl, sym, ap, subst, append_assoc, length-append}
use Rattle.std.specs.List.{cons_option}
use Rattle.std.specs.Option.{option_map}
use Rattle.std.proofs.lemmas.Bool.{eqb-true}
use Rattle.std.proofs.lemmas.List.{append-nil}
use Rattle.std.proofs.lemmas.Option.{same_Some}
use Rattle.std.proofs.Math.Seq.{take-append_seam}
use Rattle.std.proofs.lemmas.List.Elements.{filter-append, filter_map-append}
use Rattle.ox_outside.specs.Event.{Event, Opened, Heard, Showed, GaveUp, channel_of, heard_bytes, shown_bytes, has_given_up}
use Rattle.ox_http.specs.Talk.{Message}
use Rattle.ox_links.specs.Alike.{accepted_before, events_of, replies_to}
use Rattle.ox_links.specs.Link.{Answer, Written, answers_to, asked_now, reply_bytes, is_operator, is_operators}
use Rattle.ox_links.specs.Serving.{Server, Serving, accepted_in, accepted_command, after_event, answer_at, answer_of, gives_up, message_reply, serve_on, served_by, start_at, state_after, with_answer, with_event}
use Rattle.ox_links.proofs.Apart.{after_event_apart, answers_to-own}
use Rattle.ox_links.proofs.Asked.{asked_of, asked-same}
use Rattle.ox_links.proofs.GoingOn.{after_past}
use Rattle.ox_links.proofs.Moments.{at_event}
use Rattle.ox_links.proofs.Quiet.{reply_bytes-own, gives_up-other}
use Rattle.ox_links.proofs.States.{Leads, after_event_leads, start_leads}

-- ---- what a log says of a link, its own events say

-- f reads the events of the channel alone
record ReadsOwn {A : Type 0} (channel : ℕ) (f : List Event → A) : Type 0 where
  other : (event : Event) (log : List Event) → (channel_of event == channel) ≡ false → f (event ∷ log) ≡ f log
  same : (event : Event) (x y : List Event) → f x ≡ f y → f (event ∷ x) ≡ f (event ∷ y)

own_events : {A : Type 0} (channel : ℕ) (f : List Event → A) → ReadsOwn channel f → (log : List Event) → f (events_of channel log) ≡ f log
own_events channel f reads [] = refl
own_events channel f reads (event ∷ log) = by_own (channel_of event == channel) refl (own_events channel f reads log)
  where
    by_own : (b : Bool) → (channel_of event == channel) ≡ b → f (events_of channel log) ≡ f log → f (if b then event ∷ events_of channel log else events_of channel log) ≡ f (event ∷ log)
    by_own true own is = reads.same event (events_of channel log) log is
    by_own false other is = is ∙ sym (reads.other event log other)

module _ (channel : ℕ) where
  heard_other : (event : Event) (log : List Event) → (channel_of event == channel) ≡ false → heard_bytes channel (event ∷ log) ≡ heard_bytes channel log
  heard_other (Heard c bytes) log other = ap (λ (b : Bool). if b then bytes ++ heard_bytes channel log else heard_bytes channel log) other
  heard_other event log other = refl

  heard_same : (event : Event) (x y : List Event) → heard_bytes channel x ≡ heard_bytes channel y → heard_bytes channel (event ∷ x) ≡ heard_bytes channel (event ∷ y)
  heard_same (Heard c bytes) x y is = ap (λ (l : List ℕ). if c == channel then bytes ++ l else l) is
  heard_same event x y is = is

  shown_other : (event : Event) (log : List Event) → (channel_of event == channel) ≡ false → shown_bytes channel (event ∷ log) ≡ shown_bytes channel log
  shown_other (Showed c bytes) log other = ap (λ (b : Bool). if b then bytes ++ shown_bytes channel log else shown_bytes channel log) other
  shown_other event log other = refl

  shown_same : (event : Event) (x y : List Event) → shown_bytes channel x ≡ shown_bytes channel y → shown_bytes channel (event ∷ x) ≡ shown_bytes channel (event ∷ y)
  shown_same (Showed c bytes) x y is = ap (λ (l : List ℕ). if c == channel then bytes ++ l else l) is
  shown_same event x y is = is

  up_other : (event : Event) (log : List Event) → (channel_of event == channel) ≡ false → has_given_up channel (event ∷ log) ≡ has_given_up channel log
  up_other (GaveUp c) log other = ap (λ (b : Bool). b || has_given_up channel log) other
  up_other event log other = refl

  up_same : (event : Event) (x y : List Event) → has_given_up channel x ≡ has_given_up channel y → has_given_up channel (event ∷ x) ≡ has_given_up channel (event ∷ y)
  up_same (GaveUp c) x y is = ap (λ (b : Bool). (c == channel) || b) is
  up_same event x y is = is

  operator_other : (event : Event) (log : List Event) → (channel_of event == channel) ≡ false → is_operators channel (event ∷ log) ≡ is_operators channel log
  operator_other (Opened c door) log other = ap (λ (b : Bool). if b then is_operator door else is_operators channel log) other
  operator_other event log other = refl

  operator_same : (event : Event) (x y : List Event) → is_operators channel x ≡ is_operators channel y → is_operators channel (event ∷ x) ≡ is_operators channel (event ∷ y)
  operator_same (Opened c door) x y is = ap (λ (b : Bool). if c == channel then is_operator door else b) is
  operator_same event x y is = is

  next_same : (event : Event) (x y : List Event) → gives_up channel x ≡ gives_up channel y → gives_up channel (event ∷ x) ≡ gives_up channel (event ∷ y)
  next_same (GaveUp c) x y is = ap (λ (b : Bool). (c == channel) || b) is
  next_same event x y is = ap (λ (b : Bool). if channel_of event == channel then false else b) is

  own_heard : (log : List Event) → heard_bytes channel (events_of channel log) ≡ heard_bytes channel log
  own_heard = own_events channel (λ (l : List Event). heard_bytes channel l) (record { other = heard_other; same = heard_same })

  own_shown : (log : List Event) → shown_bytes channel (events_of channel log) ≡ shown_bytes channel log
  own_shown = own_events channel (λ (l : List Event). shown_bytes channel l) (record { other = shown_other; same = shown_same })

  own_up : (log : List Event) → has_given_up channel (events_of channel log) ≡ has_given_up channel log
  own_up = own_events channel (λ (l : List Event). has_given_up channel l) (record { other = up_other; same = up_same })

  own_operator : (log : List Event) → is_operators channel (events_of channel log) ≡ is_operators channel log
  own_operator = own_events channel (λ (l : List Event). is_operators channel l) (record { other = operator_other; same = operator_same })

  own_next : (log : List Event) → gives_up channel (events_of channel log) ≡ gives_up channel log
  own_next = own_events channel (λ (l : List Event). gives_up channel l) (record { other = gives_up-other channel; same = next_same })

-- ---- what is answered at an event, and to whom

-- none; or a link that gives up; or what was asked, unless the link gives up next
abbrev message_at : Event → Bool → Option Message → Option (Option Message)
message_at (GaveUp c) refused asked = Some None
message_at event refused asked = if refused then None else option_map (λ (m : Message). Some m) asked

as_message : {A : Type 0} (f : Option Message → A) (refused : Bool) (asked : Option Message)
    → (if refused then None else option_map (λ (m : Message). f (Some m)) asked) ≡ option_map f (if refused then None else option_map (λ (m : Message). Some m) asked)
as_message f true asked = refl
as_message f false None = refl
as_message f false (Some m) = refl

answer_is : {X C : Type 0} (server : Server X C) (run : Serving X C) (event : Event) (rest : List Event)
    → answer_at server run event rest ≡ option_map (λ (m : Option Message). answer_of server run (channel_of event) m)
    (message_at event (gives_up (channel_of event) rest) (asked_now server.talk (channel_of event) run.past run.answers))
answer_is server run (GaveUp c) rest = refl
answer_is server run event rest = as_message (λ (m : Option Message). answer_of server run (channel_of event) m) (gives_up (channel_of event) rest) (asked_now server.talk (channel_of event) run.past run.answers)

-- the answers that come to those of a run
abbrev added : {X C : Type 0} → Server X C → Serving X C → List Event → List (Answer C)
added server run [] = []
added server run (event ∷ rest) = cons_option (answer_at server (with_event run event) event rest) (added server (after_event server run event rest) rest)

with_added : {X C : Type 0} (server : Server X C) (run : Serving X C) (o : Option (Answer C)) (more : List (Answer C)) → (with_answer server run o).answers ++ more ≡ run.answers ++ cons_option o more
with_added server run None more = refl
with_added server run (Some a) more = append_assoc run.answers (a ∷ []) more

answers_are : {X C : Type 0} (server : Server X C) (run : Serving X C) (log : List Event) → (serve_on server run log).answers ≡ run.answers ++ added server run log
answers_are server run [] = sym (append-nil run.answers)
answers_are server run (event ∷ rest) =
    let next = after_event server run event rest in
    answers_are server next rest ∙ with_added server (with_event run event) (answer_at server (with_event run event) event rest) (added server next rest)

-- ---- the replay

-- what a replay has at an event: a reply, the bytes of all replies, their number, and for those to
-- come the commands that were accepted before
record Replayed (C : Type 0) : Type 0 where
  reply : Option Written
  bytes : List ℕ
  many : ℕ
  later : List (List C)

take-front : {A : Type 0} (x y : List A) (n : ℕ) → n ≡ length x → take n (x ++ y) ≡ x
take-front x y n is = ap (λ (k : ℕ). take k (x ++ y)) is ∙ take-append_seam x y

module _ {X C : Type 0} (server : Server X C) (first : X) (channel : ℕ) where
  abbrev replied : List Event → List ℕ → ℕ → Option Message → List C → List (List C) → Replayed C
  replied now bytes many m commands later =
      let r = message_reply server (state_after server first commands) (is_operators channel now) m in
      record { reply = Some r; bytes = bytes ++ r.bytes; many = many + 1; later = later }

  abbrev replay_at : List Event → List ℕ → ℕ → Option (Option Message) → List (List C) → Replayed C
  replay_at now bytes many None later = record { reply = None; bytes = bytes; many = many; later = later }
  replay_at now bytes many (Some m) [] = replied now bytes many m [] []
  replay_at now bytes many (Some m) (commands ∷ later) = replied now bytes many m commands later

  -- what is answered at an event that ends the link's events, with those behind it
  abbrev asked_in : List Event → List ℕ → ℕ → Event → List Event → Option (Option Message)
  asked_in now bytes many event rest =
      message_at event (gives_up channel rest) (asked_of server.talk (heard_bytes channel now) (shown_bytes channel now) (has_given_up channel now) bytes many)

  abbrev replay : List Event → List ℕ → ℕ → List Event → List (List C) → List Written
  replay past bytes many [] later = []
  replay past bytes many (event ∷ rest) later =
      let s = replay_at (past ++ event ∷ []) bytes many (asked_in (past ++ event ∷ []) bytes many event rest) later in
      cons_option s.reply (replay (past ++ event ∷ []) s.bytes s.many rest s.later)

  abbrev replies_of : List (Answer C) → List Written
  replies_of answers = map (λ (a : Answer C). a.reply) (answers_to channel answers)

  abbrev before : List C → List (Answer C) → List (List C)
  before all answers = map (λ (a : Answer C). take a.accepted all) (answers_to channel answers)

  -- the replies that come to a run's are those of the replay
  abbrev IsReplayed : Serving X C → List C → List Event → Type 0
  IsReplayed run all log =
      replies_of (added server run log)
      ≡ replay (events_of channel run.past) (reply_bytes (answers_to channel run.answers)) (length (answers_to channel run.answers)) (events_of channel log) (before all (added server run log))

  module _ (run : Serving X C) (event : Event) (rest : List Event) where
    abbrev now : Serving X C
    now = with_event run event

    abbrev bytes : List ℕ
    bytes = reply_bytes (answers_to channel run.answers)

    abbrev many : ℕ
    many = length (answers_to channel run.answers)

    others : (o : Option (Answer C)) (more : List (Answer C)) → ((a : Answer C) → o ≡ Some a → (a.channel == channel) ≡ false) → answers_to channel (cons_option o more) ≡ answers_to channel more
    others None more other = refl
    others (Some a) more other = ap (λ (b : Bool). if b then a ∷ answers_to channel more else answers_to channel more) (other a refl)

    of_event : (a : Answer C) → answer_at server now event rest ≡ Some a → a.channel ≡ channel_of event
    of_event = at_event server now event rest (λ (o : Option (Answer C)). (a : Answer C) → o ≡ Some a → a.channel ≡ channel_of event)
        (λ up a is. absurd (cc is)) (λ quiet a is. absurd (cc is)) (λ m moment a is. ap (λ (x : Answer C). x.channel) (sym (same_Some _ a is)))

    other_events : (channel_of event == channel) ≡ false → events_of channel (run.past ++ event ∷ []) ≡ events_of channel run.past
    other_events other = filter-append (λ (e : Event). channel_of e == channel) run.past (event ∷ []) ∙ ap (λ (b : Bool). events_of channel run.past ++ (if b then event ∷ [] else [])) other ∙ append-nil (events_of channel run.past)

    own_now : (channel_of event == channel) ≡ true → events_of channel (run.past ++ event ∷ []) ≡ events_of channel run.past ++ event ∷ []
    own_now own = filter-append (λ (e : Event). channel_of e == channel) run.past (event ∷ []) ∙ ap (λ (b : Bool). events_of channel run.past ++ (if b then event ∷ [] else [])) own

    module _ (all : List C) where
      abbrev next : Serving X C
      next = after_event server run event rest

      by_other : (channel_of event == channel) ≡ false → IsReplayed next all rest
          → replies_of (added server run (event ∷ rest)) ≡ replay (events_of channel run.past) bytes many (events_of channel rest) (before all (added server run (event ∷ rest)))
      by_other other is =
          let more = added server next rest in
          let same : answers_to channel (added server run (event ∷ rest)) ≡ answers_to channel more =
          others (answer_at server now event rest) more (λ a o. ap (λ (c : ℕ). c == channel) (of_event a o) ∙ other) in
          let past : events_of channel next.past ≡ events_of channel run.past = ap (λ (l : List Event). events_of channel l) (after_past server run event rest) ∙ other_events other in
          let answers : answers_to channel next.answers ≡ answers_to channel run.answers = after_event_apart server channel run event rest other in
          ap (λ (l : List (Answer C)). map (λ (a : Answer C). a.reply) l) same
          ∙ is
          ∙ ap (λ (l : List Event). replay l (reply_bytes (answers_to channel next.answers)) (length (answers_to channel next.answers)) (events_of channel rest) (before all more)) past
          ∙ ap (λ (l : List (Answer C)). replay (events_of channel run.past) (reply_bytes l) (length l) (events_of channel rest) (before all more)) answers
          ∙ ap (λ (l : List (Answer C)). replay (events_of channel run.past) bytes many (events_of channel rest) (map (λ (a : Answer C). take a.accepted all) l)) (sym same)

      module _ (own : (channel_of event == channel) ≡ true) (leads : Leads server first run) where
        abbrev own_past : List Event
        own_past = events_of channel run.past ++ event ∷ []

        abbrev answer_to : Option (Option Message) → Option (Answer C)
        answer_to asked = option_map (λ (m : Option Message). answer_of server now (channel_of event) m) asked

        -- the replay at the event, where this is answered
        abbrev replay_own : Option (Option Message) → List (List C) → List Written
        replay_own asked later =
            let s = replay_at own_past bytes many asked later in
            cons_option s.reply (replay own_past s.bytes s.many (events_of channel rest) s.later)

        same_reply : (m : Option Message) (more : List C) → all ≡ accepted_in run.answers ++ more
            → message_reply server (state_after server first (take run.accepted all)) (is_operators channel own_past) m ≡ (answer_of server now (channel_of event) m).reply
        same_reply m more is =
            let commands : take run.accepted all ≡ accepted_in run.answers = ap (λ (l : List C). take run.accepted l) is ∙ take-front (accepted_in run.answers) more run.accepted leads.accepted.many in
            let operator : is_operators channel own_past ≡ is_operators (channel_of event) now.past =
            ap (λ (l : List Event). is_operators channel l) (sym (own_now own)) ∙ own_operator channel now.past ∙ ap (λ (c : ℕ). is_operators c now.past) (sym (eqb-true (channel_of event) channel own)) in
            ap (λ (l : List C). message_reply server (state_after server first l) (is_operators channel own_past) m) commands
            ∙ ap (λ (x : X). message_reply server x (is_operators channel own_past) m) (sym leads.accepted.state)
            ∙ ap (λ (b : Bool). message_reply server run.state b m) operator

        by_asked : (asked : Option (Option Message)) (more : List C)
            → all ≡ accepted_in run.answers ++ more
            → IsReplayed (with_answer server now (answer_to asked)) all rest
            → replies_of (cons_option (answer_to asked) (added server (with_answer server now (answer_to asked)) rest))
            ≡ replay_own asked (before all (cons_option (answer_to asked) (added server (with_answer server now (answer_to asked)) rest)))
        by_asked None more whole is =
            is ∙ ap (λ (l : List Event). replay l bytes many (events_of channel rest) (before all (added server now rest))) (own_now own)
        by_asked (Some m) more whole is =
            let a = answer_of server now (channel_of event) m in
            let later = added server (with_answer server now (Some a)) rest in
            let front : answers_to channel (a ∷ later) ≡ a ∷ answers_to channel later = ap (λ (b : Bool). if b then a ∷ answers_to channel later else answers_to channel later) own in
            let oracle = before all later in
            ap (λ (l : List (Answer C)). map (λ (x : Answer C). x.reply) l) front
            ∙ ap (λ (l : List Written). a.reply ∷ l)
            (is
            ∙ ap (λ (l : List Event). replay l (reply_bytes (answers_to channel (run.answers ++ a ∷ []))) (length (answers_to channel (run.answers ++ a ∷ []))) (events_of channel rest) oracle) (own_now own)
            ∙ ap (λ (l : List ℕ). replay own_past l (length (answers_to channel (run.answers ++ a ∷ []))) (events_of channel rest) oracle) (reply_bytes-own channel run.answers a own)
            ∙ ap (λ (k : ℕ). replay own_past (bytes ++ a.reply.bytes) k (events_of channel rest) oracle) (ap (λ (l : List (Answer C)). length l) (answers_to-own channel run.answers a own) ∙ length-append (answers_to channel run.answers) (a ∷ [])))
            ∙ ap (λ (r : Written). r ∷ replay own_past (bytes ++ r.bytes) (many + 1) (events_of channel rest) oracle) (sym (same_reply m more whole))
            ∙ ap (λ (l : List (Answer C)). replay_own (Some m) (map (λ (x : Answer C). take x.accepted all) l)) (sym front)

        -- what is answered by the run is what is answered by the replay
        same_asked : answer_at server now event rest ≡ answer_to (asked_in own_past bytes many event (events_of channel rest))
        same_asked =
            let c : channel_of event ≡ channel = eqb-true (channel_of event) channel own in
            answer_is server now event rest
            ∙ ap (λ (k : ℕ). answer_to (message_at event (gives_up k rest) (asked_now server.talk k now.past run.answers))) c
            ∙ ap (λ (b : Bool). answer_to (message_at event b (asked_now server.talk channel now.past run.answers))) (sym (own_next channel rest))
            ∙ ap (λ (o : Option Message). answer_to (message_at event (gives_up channel (events_of channel rest)) o))
            (asked-same server.talk (heard_bytes channel now.past) (heard_bytes channel own_past) (shown_bytes channel now.past) (shown_bytes channel own_past)
            (has_given_up channel now.past) (has_given_up channel own_past) bytes bytes many many
            (sym (own_heard channel now.past) ∙ ap (λ (l : List Event). heard_bytes channel l) (own_now own))
            (sym (own_shown channel now.past) ∙ ap (λ (l : List Event). shown_bytes channel l) (own_now own))
            (sym (own_up channel now.past) ∙ ap (λ (l : List Event). has_given_up channel l) (own_now own)) refl refl)

        by_self : (more : List C) → all ≡ accepted_in run.answers ++ more → IsReplayed next all rest
            → replies_of (added server run (event ∷ rest)) ≡ replay (events_of channel run.past) bytes many (event ∷ events_of channel rest) (before all (added server run (event ∷ rest)))
        by_self more whole is =
            let asked = asked_in own_past bytes many event (events_of channel rest) in
            subst (λ (o : Option (Answer C)). IsReplayed (with_answer server now o) all rest → replies_of (cons_option o (added server (with_answer server now o) rest)) ≡ replay_own asked (before all (cons_option o (added server (with_answer server now o) rest))))
            (sym same_asked) (by_asked asked more whole) is

  more_commands : (run : Serving X C) (o : Option (Answer C)) (more : List (Answer C)) (all : List C) → all ≡ accepted_in run.answers ++ accepted_in (cons_option o more) → all ≡ accepted_in (with_answer server run o).answers ++ accepted_in more
  more_commands run None more all is = is
  more_commands run (Some a) more all is =
      is ∙ ap (λ (l : List C). accepted_in run.answers ++ l) (filter_map-append accepted_command (a ∷ []) more)
      ∙ sym (append_assoc (accepted_in run.answers) (accepted_in (a ∷ [])) (accepted_in more))
      ∙ ap (λ (l : List C). l ++ accepted_in more) (sym (filter_map-append accepted_command run.answers (a ∷ [])))

  is_replayed : (run : Serving X C) (log : List Event) (all : List C) → Leads server first run → all ≡ accepted_in run.answers ++ accepted_in (added server run log) → IsReplayed run all log
  is_replayed run [] all leads whole = refl
  is_replayed run (event ∷ rest) all leads whole =
      by_own (channel_of event == channel) refl
      (is_replayed (after_event server run event rest) rest all (after_event_leads server first run event rest leads)
      (more_commands (with_event run event) (answer_at server (with_event run event) event rest) (added server (after_event server run event rest) rest) all whole))
    where
      by_own : (b : Bool) → (channel_of event == channel) ≡ b → IsReplayed (after_event server run event rest) all rest
          → replies_of (added server run (event ∷ rest))
          ≡ replay (events_of channel run.past) (reply_bytes (answers_to channel run.answers)) (length (answers_to channel run.answers)) (if b then event ∷ events_of channel rest else events_of channel rest) (before all (added server run (event ∷ rest)))
      by_own true own is = by_self run event rest all own leads (accepted_in (added server run (event ∷ rest))) whole is
      by_own false other is = by_other run event rest all other is

  replayed_from : (log : List Event) → replies_to channel (served_by server first log).answers ≡ replay [] [] 0 (events_of channel log) (accepted_before channel (served_by server first log).answers)
  replayed_from log =
      let answers = answers_are server (start_at first) log in
      ap (λ (l : List (Answer C)). replies_of l) answers
      ∙ is_replayed (start_at first) log (accepted_in (added server (start_at first) log)) (start_leads server first) refl
      ∙ ap (λ (l : List (Answer C)). replay [] [] 0 (events_of channel log) (accepted_before channel l)) (sym answers)

-- the same events of a link and the same accepted commands before its answers
pub same_replies : {X C : Type 0} (server : Server X C) (first : X) (channel : ℕ) (one two : List Event) → events_of channel one ≡ events_of channel two
    → accepted_before channel (served_by server first one).answers ≡ accepted_before channel (served_by server first two).answers
    → replies_to channel (served_by server first one).answers ≡ replies_to channel (served_by server first two).answers
same_replies {C = C} server first channel one two events commands =
    replayed_from server first channel one
    ∙ ap (λ (l : List Event). replay server first channel [] [] 0 l (accepted_before channel (served_by server first one).answers)) events
    ∙ ap (λ (l : List (List C)). replay server first channel [] [] 0 (events_of channel two) l) commands
    ∙ sym (replayed_from server first channel two)
