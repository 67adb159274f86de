-- What a link asks at an event, and what the answer makes of it: facts about one link, over plain logs.
use Rattle.std.proofs.Common.{◌<◌, ◌≡◌, ◌∙◌, ◌≤◌, ◌==◌, ℕ, zero, suc, Bool, true, false, not, cond, List, [], ◌∷◌, ◌++◌, ◌&&◌, ◌||◌, length, take, drop, Option, Some, None, if◌then◌else◌, refl, sym, ap, subst, arith, append_assoc, length-append}
use Rattle.std.specs.Prelude.{slice_get, bytes_eq}
use Rattle.std.proofs.lemmas.Bool.{eq-eqb}
use Rattle.std.proofs.lemmas.List.{append-nil, drop-drop, drop-append-le, take-append-drop}
use Rattle.std.proofs.lemmas.Slice.Eq.{bytes_eq-Decides}
use Rattle.ox_outside.specs.Event.{Event, Opened, Heard, Ended, Showed, Broke, GaveUp, Shut, heard_bytes, shown_bytes, has_ended, has_broken, has_given_up, was_opened, was_shut}
use Rattle.ox_outside.specs.declared.site.Doorway.{Doorway}
use Rattle.ox_outside.proofs.Event.{heard_bytes-append, shown_bytes-append, has_ended-append, has_broken-append, was_opened-append, was_shut-append, has_given_up-append}
use Rattle.ox_http.specs.declared.Reply.{Reply}
use Rattle.ox_http.specs.declared.Request.{Request}
use Rattle.ox_http.specs.First.{first_of, whole, more as too_few, fault}
use Rattle.ox_http.specs.Talk.{Message, asks, faults, talk}
use Rattle.ox_http.specs.Written.{fault_reply, unavailable, written}
use Rattle.ox_http.proofs.Stays.{first_stays, whole_within}
use Rattle.ox_http.proofs.Talking.{talk_whole, talk_more, talk_fault}
use Rattle.ox_session.specs.Link.{Link}
use Rattle.ox_links.specs.Link.{Answer, all_shown, answers_to, asked_now, is_operator, is_operators, last_closes, reply_bytes}
use Rattle.ox_links.specs.Serving.{Server, Serving, answer_of, with_answer, with_event}
use Rattle.ox_links.proofs.Apart.{answers_to-own}
use Rattle.ox_links.proofs.Quiet.{reply_bytes-own}
use Rattle.ox_turns.specs.Desk.{IsHttp}
use Rattle.ox_turns.specs.Follows.{IsAsLogged}

same : (c : ℕ) → (c == c) ≡ true
same c = eq-eqb c c refl

or-false : (b : Bool) → (b || false) ≡ b
or-false true = refl
or-false false = refl

or_so : (a b : Bool) → a ≡ true → (a || b) ≡ true
or_so true b is = refl
or_so false b is = absurd (cc is)

-- ---- an event of a link

heard_more : (c : ℕ) (past : List Event) (bytes : List ℕ) → heard_bytes c (past ++ Heard c bytes ∷ []) ≡ heard_bytes c past ++ bytes
heard_more c past bytes =
    heard_bytes-append c past (Heard c bytes ∷ [])
    ∙ ap (λ (b : Bool). heard_bytes c past ++ (if b then bytes ++ [] else [])) (same c)
    ∙ ap (λ (l : List ℕ). heard_bytes c past ++ l) (append-nil bytes)

shown_more : (c : ℕ) (past : List Event) (bytes : List ℕ) → shown_bytes c (past ++ Showed c bytes ∷ []) ≡ shown_bytes c past ++ bytes
shown_more c past bytes =
    shown_bytes-append c past (Showed c bytes ∷ [])
    ∙ ap (λ (b : Bool). shown_bytes c past ++ (if b then bytes ++ [] else [])) (same c)
    ∙ ap (λ (l : List ℕ). shown_bytes c past ++ l) (append-nil bytes)

-- who came by the operator's door stays so
by_door_still : (c : ℕ) (past more : List Event) → was_opened c past ≡ true → is_operators c (past ++ more) ≡ is_operators c past
by_door_still c [] more is = absurd (cc is)
by_door_still c (Opened d door ∷ past) more is = chosen (is_operator door) (d == c) _ _ _ is (by_door_still c past more)
  where
    chosen : (o b w x y : Bool) → (b || w) ≡ true → (w ≡ true → x ≡ y) → (if b then o else x) ≡ (if b then o else y)
    chosen o true w x y is then_ = refl
    chosen o false w x y is then_ = then_ is
by_door_still c (Heard d bytes ∷ past) more is = by_door_still c past more is
by_door_still c (Ended d ∷ past) more is = by_door_still c past more is
by_door_still c (Showed d bytes ∷ past) more is = by_door_still c past more is
by_door_still c (Broke d ∷ past) more is = by_door_still c past more is
by_door_still c (GaveUp d ∷ past) more is = by_door_still c past more is
by_door_still c (Shut d ∷ past) more is = by_door_still c past more is

-- what an event leaves of what is known of a link, but for whether it gave up
pub record Flags (c : ℕ) (past now : List Event) : Type 0 where
  pub opened : was_opened c past ≡ true → was_opened c now ≡ true
  pub shut : was_shut c now ≡ was_shut c past
  pub broken : has_broken c now ≡ has_broken c past
  pub ended : has_ended c now ≡ has_ended c past
  pub by_door : was_opened c past ≡ true → is_operators c now ≡ is_operators c past

pub flags_by : (c : ℕ) (past more : List Event) → was_shut c more ≡ false → has_broken c more ≡ false → has_ended c more ≡ false → Flags c past (past ++ more)
flags_by c past more shut broken ended = record {
  opened = λ is. was_opened-append c past more ∙ or_so _ _ is;
  shut = was_shut-append c past more ∙ ap (λ (b : Bool). was_shut c past || b) shut ∙ or-false (was_shut c past);
  broken = has_broken-append c past more ∙ ap (λ (b : Bool). has_broken c past || b) broken ∙ or-false (has_broken c past);
  ended = has_ended-append c past more ∙ ap (λ (b : Bool). has_ended c past || b) ended ∙ or-false (has_ended c past);
  by_door = by_door_still c past more;
}

pub given_up_by : (c : ℕ) (past more : List Event) → has_given_up c more ≡ false → has_given_up c (past ++ more) ≡ has_given_up c past
given_up_by c past more none = has_given_up-append c past more ∙ ap (λ (b : Bool). has_given_up c past || b) none ∙ or-false (has_given_up c past)

pub heard_by : (c : ℕ) (past more : List Event) → heard_bytes c more ≡ [] → heard_bytes c (past ++ more) ≡ heard_bytes c past
heard_by c past more none = heard_bytes-append c past more ∙ ap (λ (l : List ℕ). heard_bytes c past ++ l) none ∙ append-nil (heard_bytes c past)

pub shown_by : (c : ℕ) (past more : List Event) → shown_bytes c more ≡ [] → shown_bytes c (past ++ more) ≡ shown_bytes c past
shown_by c past more none = shown_bytes-append c past more ∙ ap (λ (l : List ℕ). shown_bytes c past ++ l) none ∙ append-nil (shown_bytes c past)

-- ---- what a link asks

-- the message behind so many is the first of those behind them
behind_first : {A : Type 0} (n : ℕ) (xs : List A) → slice_get xs n ≡ slice_get (drop n xs) 0
behind_first zero xs = refl
behind_first (suc n) [] = refl
behind_first (suc n) (x ∷ xs) = behind_first n xs

equal : (x y : List ℕ) → x ≡ y → bytes_eq x y ≡ true
equal x y is = (bytes_eq-Decides x y).1 is

not_shown : (x y : List ℕ) → 1 ≤ length y → bytes_eq (x ++ y) x ≡ false
not_shown x y some = by (bytes_eq (x ++ y) x) refl
  where
    by : (b : Bool) → bytes_eq (x ++ y) x ≡ b → b ≡ false
    by true is =
        let e : length (x ++ y) ≡ length x = ap length ((bytes_eq-Decides (x ++ y) x).0 is) in
        absurd (omega (arith, some, e, length-append x y))
    by false is = refl

-- a reply has bytes
pub written_some : (reply : Reply) → 1 ≤ length (written reply)
unfolding written
written_some reply = omega arith

module _ {X C : Type 0} (server : Server X C) (http : IsHttp server) (run : Serving X C) (c : ℕ) (door : Doorway) (link : Link) (logged : IsAsLogged run c door link) where
  all_is_shown : link.due ≡ [] → all_shown c run.past run.answers ≡ true
  all_is_shown none = equal _ _ (logged.given ∙ ap (λ (l : List ℕ). shown_bytes c run.past ++ l) none ∙ append-nil (shown_bytes c run.past))

  going_on : link.closing ≡ false → has_given_up c run.past ≡ false
  going_on open' = by (has_given_up c run.past) refl
    where
      by : (b : Bool) → has_given_up c run.past ≡ b → b ≡ false
      by true is = absurd (let e : true ≡ false = sym (logged.gave_up is) ∙ open' in cc e)
      by false is = refl

  first_message : link.closing ≡ false → slice_get (server.talk (heard_bytes c run.past)) (length (answers_to c run.answers)) ≡ slice_get (talk link.heard) 0
  first_message open' =
      let heard = heard_bytes c run.past in
      let n = length (answers_to c run.answers) in
      ap (λ (l : List Message). slice_get l n) (http.talk heard)
      ∙ behind_first n (talk heard)
      ∙ ap (λ (l : List ℕ). slice_get (drop n (talk l)) 0) (sym (append-nil heard))
      ∙ ap (λ (l : List Message). slice_get l 0) (logged.pending open' [])
      ∙ ap (λ (l : List ℕ). slice_get (talk l) 0) (append-nil link.heard)

  -- with nothing due a link asks the first of what is pending
  pub asks_first : link.due ≡ [] → link.closing ≡ false → asked_now server.talk c run.past run.answers ≡ slice_get (talk link.heard) 0
  asks_first none open' =
      ap (λ (b : Bool). if b && not (has_given_up c run.past) then m else None) (all_is_shown none)
      ∙ ap (λ (b : Bool). if not b then m else None) (going_on open')
      ∙ first_message open'
    where
      m : Option Message
      m = slice_get (server.talk (heard_bytes c run.past)) (length (answers_to c run.answers))

  -- and none once the last reply says close
  pub asks_no_more : link.closing ≡ true → asked_now server.talk c run.past run.answers ≡ None
  asks_no_more last = by (all_shown c run.past run.answers) (has_given_up c run.past) refl
    where
      m : Option Message
      m = slice_get (server.talk (heard_bytes c run.past)) (length (answers_to c run.answers))

      none : has_given_up c run.past ≡ false → m ≡ None
      none up =
          let heard = heard_bytes c run.past in
          let n = length (answers_to c run.answers) in
          ap (λ (l : List Message). slice_get l n) (http.talk heard)
          ∙ behind_first n (talk heard)
          ∙ ap (λ (l : List ℕ). slice_get (drop n (talk l)) 0) (sym (append-nil heard))
          ∙ ap (λ (l : List Message). slice_get l 0) (logged.no_more last up [])

      by : (b up : Bool) → has_given_up c run.past ≡ up → (if b && not up then m else None) ≡ None
      by true true is = refl
      by true false is = none is
      by false up is = refl

  -- nothing is asked while something is due
  pub due_shown : 1 ≤ length link.due → all_shown c run.past run.answers ≡ false
  due_shown some = ap (λ (l : List ℕ). bytes_eq l (shown_bytes c run.past)) logged.given ∙ not_shown (shown_bytes c run.past) link.due some

  pub asks_none_due : 1 ≤ length link.due → asked_now server.talk c run.past run.answers ≡ None
  asks_none_due some = ap (λ (b : Bool). if b && not (has_given_up c run.past) then slice_get (server.talk (heard_bytes c run.past)) (length (answers_to c run.answers)) else None) (due_shown some)

  pub nothing_due_shown : link.due ≡ [] → all_shown c run.past run.answers ≡ true
  nothing_due_shown none = all_is_shown none

  pub hasnt_given_up : link.closing ≡ false → has_given_up c run.past ≡ false
  hasnt_given_up open' = going_on open'

  pub waits : link.due ≡ [] → link.closing ≡ false → first_of link.heard ≡ too_few → asked_now server.talk c run.past run.answers ≡ None
  waits none open' is = asks_first none open' ∙ ap (λ (l : List Message). slice_get l 0) (talk_more link.heard is)

  pub asks_request : (request : Request) (n : ℕ) → link.due ≡ [] → link.closing ≡ false → first_of link.heard ≡ whole request n → asked_now server.talk c run.past run.answers ≡ Some (asks request)
  asks_request request n none open' is = asks_first none open' ∙ ap (λ (l : List Message). slice_get l 0) (talk_whole link.heard request n is)

  pub is_at_fault : (status : ℕ) → link.due ≡ [] → link.closing ≡ false → first_of link.heard ≡ fault status → asked_now server.talk c run.past run.answers ≡ Some (faults status)
  is_at_fault status none open' is = asks_first none open' ∙ ap (λ (l : List Message). slice_get l 0) (talk_fault link.heard status is)

  -- ---- what the events of its turn make of it

  pub after_heard : (bytes : List ℕ) → IsAsLogged (with_event run (Heard c bytes)) c door (record link { heard = link.heard ++ bytes })
  after_heard bytes =
      let more = Heard c bytes ∷ [] in
      let flags = flags_by c run.past more refl refl refl in
      let up = given_up_by c run.past more refl in
      let heard = heard_more c run.past bytes in
      let n = length (answers_to c run.answers) in
      record {
        opened = flags.opened logged.opened;
        not_shut = flags.shut ∙ logged.not_shut;
        not_broken = flags.broken ∙ logged.not_broken;
        not_ended = (flags.ended ∙ logged.not_ended.0, logged.not_ended.1);
        by_door = flags.by_door logged.opened ∙ logged.by_door;
        answered = logged.answered;
        given = logged.given ∙ ap (λ (l : List ℕ). l ++ link.due) (sym (shown_by c run.past more refl));
        closing = logged.closing;
        gave_up = λ is. logged.gave_up (sym up ∙ is);
        pending = λ open' later.
            ap (λ (l : List ℕ). drop n (talk (l ++ later))) heard
            ∙ ap (λ (l : List ℕ). drop n (talk l)) (append_assoc (heard_bytes c run.past) bytes later)
            ∙ logged.pending open' (bytes ++ later)
            ∙ ap talk (sym (append_assoc link.heard bytes later));
        no_more = λ last is later.
            ap (λ (l : List ℕ). drop n (talk (l ++ later))) heard
            ∙ ap (λ (l : List ℕ). drop n (talk l)) (append_assoc (heard_bytes c run.past) bytes later)
            ∙ logged.no_more last (sym up ∙ is) (bytes ++ later);
      }

  pub after_shown : (n : ℕ) → IsAsLogged (with_event run (Showed c (take n link.due))) c door (record link { due = drop n link.due })
  after_shown k =
      let more = Showed c (take k link.due) ∷ [] in
      let flags = flags_by c run.past more refl refl refl in
      let up = given_up_by c run.past more refl in
      let heard = heard_by c run.past more refl in
      let n = length (answers_to c run.answers) in
      record {
        opened = flags.opened logged.opened;
        not_shut = flags.shut ∙ logged.not_shut;
        not_broken = flags.broken ∙ logged.not_broken;
        not_ended = (flags.ended ∙ logged.not_ended.0, logged.not_ended.1);
        by_door = flags.by_door logged.opened ∙ logged.by_door;
        answered = logged.answered;
        given = logged.given
            ∙ ap (λ (l : List ℕ). shown_bytes c run.past ++ l) (sym (take-append-drop k link.due))
            ∙ sym (append_assoc (shown_bytes c run.past) (take k link.due) (drop k link.due))
            ∙ ap (λ (l : List ℕ). l ++ drop k link.due) (sym (shown_more c run.past (take k link.due)));
        closing = logged.closing;
        gave_up = λ is. logged.gave_up (sym up ∙ is);
        pending = λ open' later. ap (λ (l : List ℕ). drop n (talk (l ++ later))) heard ∙ logged.pending open' later;
        no_more = λ last is later. ap (λ (l : List ℕ). drop n (talk (l ++ later))) heard ∙ logged.no_more last (sym up ∙ is) later;
      }

-- ---- what an answer makes of it

last_is : {C : Type 0} (answers : List (Answer C)) (a : Answer C) → last_closes (answers ++ a ∷ []) ≡ a.reply.close
last_is [] a = refl
last_is (b ∷ []) a = refl
last_is (b ∷ d ∷ answers) a = last_is (d ∷ answers) a

module _ {X C : Type 0} (server : Server X C) (http : IsHttp server) (run : Serving X C) (c : ℕ) (door : Doorway) (link : Link) (logged : IsAsLogged run c door link) (none : link.due ≡ []) (open' : link.closing ≡ false) where
  one_more : (m : Message) → answers_to c (with_answer server run (Some (answer_of server run c (Some m)))).answers ≡ answers_to c run.answers ++ answer_of server run c (Some m) ∷ []
  one_more m = answers_to-own c run.answers (answer_of server run c (Some m)) (same c)

  behind_one : (m : Message) (later : List ℕ) → drop (length (answers_to c (with_answer server run (Some (answer_of server run c (Some m)))).answers)) (talk (heard_bytes c run.past ++ later)) ≡ drop 1 (talk (link.heard ++ later))
  behind_one m later =
      let n = length (answers_to c run.answers) in
      let count = ap length (one_more m) ∙ length-append (answers_to c run.answers) (answer_of server run c (Some m) ∷ []) in
      ap (λ (k : ℕ). drop k (talk (heard_bytes c run.past ++ later))) count
      ∙ sym (drop-drop 1 n (talk (heard_bytes c run.past ++ later)))
      ∙ ap (λ (l : List Message). drop 1 l) (logged.pending open' later)

  given_one : (m : Message) → reply_bytes (answers_to c (with_answer server run (Some (answer_of server run c (Some m)))).answers) ≡ shown_bytes c run.past ++ (answer_of server run c (Some m)).reply.bytes
  given_one m =
      reply_bytes-own c run.answers (answer_of server run c (Some m)) (same c)
      ∙ ap (λ (l : List ℕ). l ++ (answer_of server run c (Some m)).reply.bytes) (logged.given ∙ ap (λ (l : List ℕ). shown_bytes c run.past ++ l) none ∙ append-nil (shown_bytes c run.past))

  speaks : (m : Message) → 1 ≤ length (answer_of server run c (Some m)).reply.bytes
  speaks (asks request) = http.reply_speaks run.state _ request
  speaks (faults status) = subst (λ (l : List ℕ). 1 ≤ length l) (sym (http.fault_bytes status)) (written_some (fault_reply status))

  -- the answer to it is due then
  pub answer_due : (m : Message) → all_shown c run.past (with_answer server run (Some (answer_of server run c (Some m)))).answers ≡ false
  answer_due m = ap (λ (l : List ℕ). bytes_eq l (shown_bytes c run.past)) (given_one m) ∙ not_shown (shown_bytes c run.past) _ (speaks m)

  -- a request, with what was pending behind it
  pub after_request : (request : Request) (n : ℕ) → first_of link.heard ≡ whole request n
      → IsAsLogged (with_answer server run (Some (answer_of server run c (Some (asks request))))) c door
      (record link { heard = drop n link.heard; due = (answer_of server run c (Some (asks request))).reply.bytes; asked = false; closing = (answer_of server run c (Some (asks request))).reply.close })
  after_request request n is = record {
    opened = logged.opened;
    not_shut = logged.not_shut;
    not_broken = logged.not_broken;
    not_ended = logged.not_ended;
    by_door = logged.by_door;
    answered = refl;
    given = given_one (asks request);
    closing = sym (ap last_closes (one_more (asks request)) ∙ last_is (answers_to c run.answers) (answer_of server run c (Some (asks request))));
    gave_up = λ up. absurd (let e : true ≡ false = sym (logged.gave_up up) ∙ open' in cc e);
    pending = λ on later. behind_one (asks request) later ∙ ap (λ (l : List Message). drop 1 l) (begins later)
        ∙ ap (λ (b : Bool). cond b [] (talk (drop n (link.heard ++ later)))) (sym closes ∙ on)
        ∙ ap talk (drop-append-le n link.heard later within.1);
    no_more = λ last up later. behind_one (asks request) later ∙ ap (λ (l : List Message). drop 1 l) (begins later)
        ∙ ap (λ (b : Bool). cond b [] (talk (drop n (link.heard ++ later)))) (sym closes ∙ last);
  }
    where
      within : (0 < n) × (n ≤ length link.heard)
      within = whole_within link.heard request n is

      closes : (answer_of server run c (Some (asks request))).reply.close ≡ request.close
      closes = http.reply_closes run.state _ request

      begins : (later : List ℕ) → talk (link.heard ++ later) ≡ asks request ∷ cond request.close [] (talk (drop n (link.heard ++ later)))
      begins later = talk_whole (link.heard ++ later) request n (first_stays link.heard later (λ w. let e : whole request n ≡ too_few = sym is ∙ w in let no : ⊥ = cc e in no) ∙ is)

  -- a fault
  pub after_fault : (status : ℕ) → first_of link.heard ≡ fault status
      → IsAsLogged (with_answer server run (Some (answer_of server run c (Some (faults status))))) c door (record link { due = written (fault_reply status); closing = true })
  after_fault status is = record {
    opened = logged.opened;
    not_shut = logged.not_shut;
    not_broken = logged.not_broken;
    not_ended = logged.not_ended;
    by_door = logged.by_door;
    answered = logged.answered;
    given = given_one (faults status) ∙ ap (λ (l : List ℕ). shown_bytes c run.past ++ l) (http.fault_bytes status);
    closing = sym (ap last_closes (one_more (faults status)) ∙ last_is (answers_to c run.answers) (answer_of server run c (Some (faults status))) ∙ http.fault_closes status);
    gave_up = λ up. refl;
    pending = λ on. absurd (cc on);
    no_more = λ last up later. behind_one (faults status) later ∙ ap (λ (l : List Message). drop 1 l) (begins later);
  }
    where
      begins : (later : List ℕ) → talk (link.heard ++ later) ≡ faults status ∷ []
      begins later = talk_fault (link.heard ++ later) status (first_stays link.heard later (λ w. let e : fault status ≡ too_few = sym is ∙ w in let no : ⊥ = cc e in no) ∙ is)

-- a link that gives up
module _ {X C : Type 0} (server : Server X C) (http : IsHttp server) (run : Serving X C) (c : ℕ) (door : Doorway) (link : Link) (logged : IsAsLogged run c door link) (none : link.due ≡ []) where
  up_run : Serving X C
  up_run = with_event run (GaveUp c)

  pub after_giving_up : (last : Link) → last.ended ≡ false → last.asked ≡ false → last.due ≡ unavailable → last.closing ≡ true
      → IsAsLogged (with_answer server (with_event run (GaveUp c)) (Some (answer_of server (with_event run (GaveUp c)) c None))) c door last
  after_giving_up last ended asked due closing =
      let more = GaveUp c ∷ [] in
      let flags = flags_by c run.past more refl refl refl in
      let a = answer_of server (with_event run (GaveUp c)) c None in
      let own = answers_to-own c run.answers a (same c) in
      record {
        opened = flags.opened logged.opened;
        not_shut = flags.shut ∙ logged.not_shut;
        not_broken = flags.broken ∙ logged.not_broken;
        not_ended = (flags.ended ∙ logged.not_ended.0, ended);
        by_door = flags.by_door logged.opened ∙ logged.by_door;
        answered = asked;
        given = reply_bytes-own c run.answers a (same c)
            ∙ ap (λ (l : List ℕ). l ++ a.reply.bytes) (logged.given ∙ ap (λ (l : List ℕ). shown_bytes c run.past ++ l) none ∙ append-nil (shown_bytes c run.past))
            ∙ ap (λ (l : List ℕ). l ++ a.reply.bytes) (sym (shown_by c run.past more refl))
            ∙ ap (λ (l : List ℕ). shown_bytes c (run.past ++ more) ++ l) (http.unavailable_bytes ∙ sym due);
        closing = closing ∙ sym (ap last_closes own ∙ last_is (answers_to c run.answers) a ∙ http.unavailable_closes);
        gave_up = λ up. closing;
        pending = λ on. absurd (let e : true ≡ false = sym closing ∙ on in cc e);
        no_more = λ is up. absurd (let e : true ≡ false = sym (gives c run.past) ∙ up in cc e);
      }
    where
      gives : (c : ℕ) (past : List Event) → has_given_up c (past ++ GaveUp c ∷ []) ≡ true
      gives c past = has_given_up-append c past (GaveUp c ∷ []) ∙ last_true (has_given_up c past) (c == c) (same c)
        where
          last_true : (a b : Bool) → b ≡ true → (a || (b || false)) ≡ true
          last_true true b is = refl
          last_true false b is = or-false b ∙ is
