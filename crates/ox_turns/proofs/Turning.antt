-- What a link's turn makes, from a run on: facts about one link, over plain logs.
use Rattle.std.proofs.Common.{◌≡◌, ◌∙◌, ◌≤◌, ◌==◌, ℕ, Bool, true, false, not, List, [], ◌∷◌, ◌++◌, ◌&&◌, ◌||◌, length, take, drop, Option, Some, None, if◌then◌else◌, refl, sym, ap, subst, arith, append_assoc, inl, inr}
use Rattle.std.specs.Prelude.{IsTrue, bytes_eq}
use Rattle.std.proofs.lemmas.Bool.{eq-eqb, eqb-true}
use Rattle.std.proofs.lemmas.Grind.{flat_map-append}
use Rattle.std.proofs.lemmas.List.{append-nil}
use Rattle.std.proofs.lemmas.List.Elements.{All-nil, All-cons}
use Rattle.ox_outside.specs.Event.{Event, Heard, Ended, Showed, Broke, GaveUp, Shut, channel_of, heard_bytes, shown_bytes, has_ended, has_broken, has_given_up}
use Rattle.ox_outside.specs.Shown.{IsFrontOf}
use Rattle.ox_outside.specs.declared.site.Doorway.{Doorway}
use Rattle.ox_outside.proofs.Event.{has_ended-append, has_broken-append}
use Rattle.ox_http.specs.declared.Request.{Request}
use Rattle.ox_http.specs.First.{first_of, whole, more as too_few, fault}
use Rattle.ox_http.specs.Talk.{Message, asks, faults}
use Rattle.ox_http.specs.Written.{fault_reply, unavailable, written}
use Rattle.ox_session.specs.Link.{Link}
use Rattle.ox_links.specs.Link.{Answer, all_shown, answers_to, asked_now, is_operator, is_over, last_closes, reply_bytes}
use Rattle.ox_links.specs.Rotation.{slots_after}
use Rattle.ox_links.specs.Serving.{Server, Serving, answer_of, answer_at, with_answer, with_event, after_event, serve_on, gives_up}
use Rattle.ox_links.specs.Turned.{is_first}
use Rattle.ox_links.proofs.Apart.{answers_to-own, answers_to-other}
use Rattle.ox_links.proofs.Asked.{asked-same, shown-other}
use Rattle.ox_links.proofs.Moments.{asked_at, at_event, IsGivingUp, IsMoment}
use Rattle.ox_turns.specs.Desk.{IsHttp, state_behind}
use Rattle.ox_turns.specs.Follows.{IsAsLogged, LinkFollows}
use Rattle.ox_turns.specs.Turn.{LinkTurn, ShowsFronts}
use Rattle.ox_turns.proofs.Answering.{asks_no_more, due_shown, asks_none_due, nothing_due_shown, waits, asks_request, is_at_fault, after_heard, after_shown, after_request, after_fault, after_giving_up, answer_due, written_some, heard_by, shown_by, given_up_by}

-- ---- what an event is answered

module _ {X C : Type 0} (server : Server X C) (run : Serving X C) where
  pub unanswered : (event : Event) (rest : List Event) → (IsGivingUp event → ⊥) → asked_at server run event ≡ None → answer_at server run event rest ≡ None
  unanswered event rest goes_on none =
      at_event server run event rest (λ (o : Option (Answer C)). o ≡ None) (λ up. refl) (λ quiet. refl) by
    where
      by : (m : Option Message) → IsMoment server run event rest m → Some (answer_of server run (channel_of event) m) ≡ None
      by None moment = absurd (goes_on moment)
      by (Some m) moment = absurd (let e : Some m ≡ None = sym moment.1 ∙ none in let no : ⊥ = cc e in no)

  pub answered_by : (event : Event) (rest : List Event) (m : Message) → (IsGivingUp event → ⊥) → gives_up (channel_of event) rest ≡ false → asked_at server run event ≡ Some m
      → answer_at server run event rest ≡ Some (answer_of server run (channel_of event) (Some m))
  answered_by event rest m goes_on stays is =
      at_event server run event rest (λ (o : Option (Answer C)). o ≡ Some (answer_of server run (channel_of event) (Some m)))
      (λ up. absurd (let e : true ≡ false = sym up ∙ stays in cc e)) (λ quiet. absurd (let e : Some m ≡ None = sym is ∙ quiet in let no : ⊥ = cc e in no)) by
    where
      by : (o : Option Message) → IsMoment server run event rest o → Some (answer_of server run (channel_of event) o) ≡ Some (answer_of server run (channel_of event) (Some m))
      by None moment = absurd (goes_on moment)
      by (Some k) moment = ap (λ (x : Option Message). Some (answer_of server run (channel_of event) x)) (sym moment.1 ∙ is)

  pub given_up_next : (event : Event) (rest : List Event) → (IsGivingUp event → ⊥) → gives_up (channel_of event) rest ≡ true → answer_at server run event rest ≡ None
  given_up_next event rest goes_on up =
      at_event server run event rest (λ (o : Option (Answer C)). o ≡ None) (λ up. refl) (λ quiet. refl) by
    where
      by : (m : Option Message) → IsMoment server run event rest m → Some (answer_of server run (channel_of event) m) ≡ None
      by None moment = absurd (goes_on moment)
      by (Some m) moment = absurd (let e : true ≡ false = sym up ∙ moment.0 in cc e)

-- ---- of each link's answers a front was shown

module _ {X C : Type 0} (server : Server X C) where
  front_more : (x y z : List ℕ) → IsFrontOf x y → IsFrontOf x (y ++ z)
  front_more x y z front = (front.0 ++ z, sym (append_assoc x front.0 z) ∙ ap (λ (l : List ℕ). l ++ z) front.1)

  more_replies : (run : Serving X C) (o : Option (Answer C)) (channel : ℕ)
      → (rest : List ℕ) × (reply_bytes (answers_to channel (with_answer server run o).answers) ≡ reply_bytes (answers_to channel run.answers) ++ rest)
  more_replies run None channel = ([], sym (append-nil _))
  more_replies run (Some a) channel = by (a.channel == channel) refl
    where
      by : (b : Bool) → (a.channel == channel) ≡ b → (rest : List ℕ) × (reply_bytes (answers_to channel (run.answers ++ a ∷ [])) ≡ reply_bytes (answers_to channel run.answers) ++ rest)
      by true own = (a.reply.bytes ++ [], ap reply_bytes (answers_to-own channel run.answers a own) ∙ flat_map-append (λ (x : Answer C). x.reply.bytes) (answers_to channel run.answers) (a ∷ []))
      by false other = ([], ap reply_bytes (answers_to-other channel run.answers a other) ∙ sym (append-nil _))

  same_past : (run : Serving X C) (o : Option (Answer C)) → (with_answer server run o).past ≡ run.past
  same_past run None = refl
  same_past run (Some a) = refl

  pub fronts_answer : (run : Serving X C) (o : Option (Answer C)) → ShowsFronts run → ShowsFronts (with_answer server run o)
  fronts_answer run o fronts channel one =
      let more = more_replies run o channel in
      subst (λ (l : List Event). IsFrontOf (shown_bytes channel l) (reply_bytes (answers_to channel (with_answer server run o).answers))) (sym (same_past run o))
      (subst (λ (l : List ℕ). IsFrontOf (shown_bytes channel run.past) l) (sym more.1) (front_more _ _ more.0 (fronts channel one)))

  pub fronts_event : (run : Serving X C) (event : Event) (rest : List Event) → ShowsFronts (with_event run event) → ShowsFronts (after_event server run event rest)
  fronts_event run event rest fronts = fronts_answer (with_event run event) (answer_at server (with_event run event) event rest) fronts

  -- an event that shows nothing
  pub fronts_quiet : (run : Serving X C) (event : Event) → ((channel : ℕ) → shown_bytes channel (event ∷ []) ≡ []) → ShowsFronts run → ShowsFronts (with_event run event)
  fronts_quiet run event none fronts channel one =
      subst (λ (l : List ℕ). IsFrontOf l (reply_bytes (answers_to channel run.answers))) (sym (shown_by channel run.past (event ∷ []) (none channel))) (fronts channel one)

  -- an event of one link
  pub fronts_own : (run : Serving X C) (event : Event) → IsFrontOf (shown_bytes (channel_of event) (run.past ++ event ∷ [])) (reply_bytes (answers_to (channel_of event) run.answers)) → ShowsFronts run → ShowsFronts (with_event run event)
  fronts_own run event own fronts channel one = by (channel_of event == channel) refl
    where
      by : (b : Bool) → (channel_of event == channel) ≡ b → IsFrontOf (shown_bytes channel (run.past ++ event ∷ [])) (reply_bytes (answers_to channel run.answers))
      by true is = subst (λ (k : ℕ). IsFrontOf (shown_bytes k (run.past ++ event ∷ [])) (reply_bytes (answers_to k run.answers))) (eqb-true (channel_of event) channel is) own
      by false other = subst (λ (l : List ℕ). IsFrontOf l (reply_bytes (answers_to channel run.answers))) (sym (shown-other channel run.past event other)) (fronts channel one)

-- ---- the rest of a turn

first_of_turn : (c : ℕ) → (c == c) ≡ true
first_of_turn c = eq-eqb c c refl

broke_so : (a b : Bool) → a ≡ true → (a || b) ≡ true
broke_so true b is = refl
broke_so false b is = absurd (cc is)

module _ {X C : Type 0} (server : Server X C) (run : Serving X C) (c : ℕ) where
  -- an event that brings no answer
  pub quiet_next : (event : Event) (rest : List Event) → (IsGivingUp event → ⊥) → asked_at server (with_event run event) event ≡ None → after_event server run event rest ≡ with_event run event
  quiet_next event rest goes_on none = ap (λ (o : Option (Answer C)). with_answer server (with_event run event) o) (unanswered server (with_event run event) event rest goes_on none)

  -- an event that says nothing and shows nothing leaves what is asked
  pub asked_still : (event : Event) → heard_bytes c (event ∷ []) ≡ [] → shown_bytes c (event ∷ []) ≡ [] → has_given_up c (event ∷ []) ≡ false
      → asked_now server.talk c (run.past ++ event ∷ []) run.answers ≡ asked_now server.talk c run.past run.answers
  asked_still event heard shown up =
      asked-same server.talk _ (heard_bytes c run.past) _ (shown_bytes c run.past) _ (has_given_up c run.past) _ (reply_bytes (answers_to c run.answers)) _ (length (answers_to c run.answers))
      (heard_by c run.past (event ∷ []) heard) (shown_by c run.past (event ∷ []) shown) (given_up_by c run.past (event ∷ []) up) refl refl

module _ {X C : Type 0} (server : Server X C) (http : IsHttp server) (run : Serving X C) (c : ℕ) (door : Doorway) (link : Link) (logged : IsAsLogged run c door link) where
  over_due : 1 ≤ length link.due → is_over c run.past run.answers ≡ false
  over_due some =
      ap (λ (b : Bool). b || (all_shown c run.past run.answers && (has_ended c run.past || last_closes (answers_to c run.answers)))) logged.not_broken
      ∙ ap (λ (b : Bool). b && (has_ended c run.past || last_closes (answers_to c run.answers))) (due_shown server http run c door link logged some)

  never : (b : Bool) → (b && false) ≡ false
  never true = refl
  never false = refl

  over_open : link.closing ≡ false → is_over c run.past run.answers ≡ false
  over_open open' =
      ap (λ (b : Bool). b || (all_shown c run.past run.answers && (has_ended c run.past || last_closes (answers_to c run.answers)))) logged.not_broken
      ∙ ap (λ (b : Bool). all_shown c run.past run.answers && (b || last_closes (answers_to c run.answers))) logged.not_ended.0
      ∙ ap (λ (b : Bool). all_shown c run.past run.answers && b) (sym logged.closing ∙ open')
      ∙ never (all_shown c run.past run.answers)

  over_last : link.due ≡ [] → link.closing ≡ true → is_over c run.past run.answers ≡ true
  over_last none last =
      ap (λ (b : Bool). b || (all_shown c run.past run.answers && (has_ended c run.past || last_closes (answers_to c run.answers)))) logged.not_broken
      ∙ ap (λ (b : Bool). b && (has_ended c run.past || last_closes (answers_to c run.answers))) (nothing_due_shown server http run c door link logged none)
      ∙ ap (λ (b : Bool). b || last_closes (answers_to c run.answers)) logged.not_ended.0
      ∙ sym logged.closing ∙ last

  front_due : IsFrontOf (shown_bytes c run.past) (reply_bytes (answers_to c run.answers))
  front_due = (link.due, sym logged.given)

-- one event, behind which the link goes on
module _ {X C : Type 0} (server : Server X C) (run : Serving X C) (c : ℕ) (door : Doorway) where
  abbrev Own : Event → Type 0
  Own event = channel_of event ≡ c

  goes_on_with : (event : Event) (next : Serving X C) (new : Link) → IsTrue (is_first c (not (all_shown c run.past run.answers)) event) → channel_of event ≡ c
      → ((slots : List (Option ℕ)) (more : List Event) → slots_after slots (event ∷ more) ≡ slots_after slots more) → after_event server run event [] ≡ next → is_over c (run.past ++ event ∷ []) next.answers ≡ false
      → LinkFollows next c door new → ShowsFronts next → LinkTurn server run c door false (event ∷ []) new next.state
  goes_on_with event next new first own slots is over follows fronts = record {
    made = (first, inl (sym (ap (λ (b : Bool). if b then Shut c ∷ [] else []) (ap (λ (r : Serving X C). is_over c (run.past ++ event ∷ []) r.answers) is ∙ over))));
    own = All-cons Own event [] own (All-nil Own);
    follows = λ no. subst (λ (r : Serving X C). LinkFollows r c door new) (sym is) follows;
    shuts = λ l. slots l [];
    fronts = subst (λ (r : Serving X C). ShowsFronts r) (sym is) fronts;
    state = ap (λ (r : Serving X C). r.state) (sym is);
  }

  -- one event, behind which the link is shut
  ends_with : (event : Event) (new : Link) → IsTrue (is_first c (not (all_shown c run.past run.answers)) event) → channel_of event ≡ c
      → ((slots : List (Option ℕ)) (more : List Event) → slots_after slots (event ∷ more) ≡ slots_after slots more) → ((rest : List Event) → after_event server run event rest ≡ with_event run event)
      → asked_now server.talk c (run.past ++ event ∷ []) run.answers ≡ None
      → is_over c (run.past ++ event ∷ []) run.answers ≡ true
      → ShowsFronts (with_event run event) → LinkTurn server run c door true (event ∷ Shut c ∷ []) new run.state
  ends_with event new first own slots is none over fronts =
      let shut = ap (λ (r : Serving X C). after_event server r (Shut c) []) (is (Shut c ∷ [])) ∙ quiet_next server (with_event run event) c (Shut c) [] (λ no. no) (asked_still server (with_event run event) c (Shut c) refl refl refl ∙ none) in
      record {
        made = (first, inl (sym (ap (λ (b : Bool). if b then Shut c ∷ [] else []) (ap (λ (r : Serving X C). is_over c (run.past ++ event ∷ []) r.answers) (is []) ∙ over))));
        own = All-cons Own event (Shut c ∷ []) own (All-cons Own (Shut c) [] refl (All-nil Own));
        follows = λ no. absurd (cc no);
        shuts = λ l. slots l (Shut c ∷ []);
        fronts = subst (λ (r : Serving X C). ShowsFronts r) (sym shut) (fronts_quiet server (with_event run event) (Shut c) (λ channel. refl) fronts);
        state = ap (λ (r : Serving X C). r.state) (sym shut);
      }

  -- one event, behind which the link gives up
  gives_up_behind : (event : Event) (new : Link) → IsTrue (is_first c (not (all_shown c run.past run.answers)) event) → channel_of event ≡ c → (IsGivingUp event → ⊥)
      → ((slots : List (Option ℕ)) (more : List Event) → slots_after slots (event ∷ more) ≡ slots_after slots more)
      → is_over c (run.past ++ event ∷ []) (after_event server run event []).answers ≡ false → IsTrue (all_shown c (run.past ++ event ∷ []) run.answers)
      → IsAsLogged (with_answer server (with_event (with_event run event) (GaveUp c)) (Some (answer_of server (with_event (with_event run event) (GaveUp c)) c None))) c door new
      → new.due ≡ unavailable
      → ShowsFronts (with_event run event) → LinkTurn server run c door false (event ∷ GaveUp c ∷ []) new run.state
  gives_up_behind event new first own goes_on slots over shown logged due fronts =
      let ups : gives_up (channel_of event) (GaveUp c ∷ []) ≡ true = ap (λ (k : ℕ). gives_up k (GaveUp c ∷ [])) own ∙ ap (λ (b : Bool). b || false) (first_of_turn c) in
      let quiet = ap (λ (o : Option (Answer C)). with_answer server (with_event run event) o) (given_up_next server (with_event run event) event (GaveUp c ∷ []) goes_on ups) in
      let is : serve_on server run (event ∷ GaveUp c ∷ []) ≡ with_answer server (with_event (with_event run event) (GaveUp c)) (Some (answer_of server (with_event (with_event run event) (GaveUp c)) c None))
      = ap (λ (r : Serving X C). after_event server r (GaveUp c) []) quiet in
      record {
        made = (first, inr (refl, over, shown));
        own = All-cons Own event (GaveUp c ∷ []) own (All-cons Own (GaveUp c) [] refl (All-nil Own));
        follows = λ no. subst (λ (r : Serving X C). LinkFollows r c door new) (sym is) (record {
          as_logged = logged;
          at_rest = record { goes_on = λ none. absurd (let e : unavailable ≡ [] = sym due ∙ none in cc e); asks_nothing = λ none. absurd (let e : unavailable ≡ [] = sym due ∙ none in cc e) };
        });
        shuts = λ l. slots l (GaveUp c ∷ []);
        fronts = subst (λ (r : Serving X C). ShowsFronts r) (sym is) (fronts_answer server (with_event (with_event run event) (GaveUp c)) (Some (answer_of server (with_event (with_event run event) (GaveUp c)) c None)) (fronts_quiet server (with_event run event) (GaveUp c) (λ channel. refl) fronts));
        state = ap (λ (r : Serving X C). r.state) (sym is);
      }

-- ---- the turn of a link, by what its first event is

module _ {X C : Type 0} (server : Server X C) (http : IsHttp server) (run : Serving X C) (c : ℕ) (door : Doorway) (fronts : ShowsFronts run) where
  -- after the first event, before anything is asked
  pub record Middle (event : Event) (mid : Link) : Type 0 where
    pub first : IsTrue (is_first c (not (all_shown c run.past run.answers)) event)
    pub own : channel_of event ≡ c
    pub goes_on : IsGivingUp event → ⊥
    pub slots : (slots : List (Option ℕ)) (more : List Event) → slots_after slots (event ∷ more) ≡ slots_after slots more
    pub logged : IsAsLogged (with_event run event) c door mid
    pub shows : ShowsFronts (with_event run event)

  module _ (old : Link) (follows : LinkFollows run c door old) where
    pub middle_heard : (bytes : List ℕ) → old.due ≡ [] → Middle (Heard c bytes) (record old { heard = old.heard ++ bytes })
    middle_heard bytes none = record {
      first = ap (λ (b : Bool). b && not (not (all_shown c run.past run.answers))) (first_of_turn c) ∙ ap (λ (b : Bool). not (not b)) (nothing_due_shown server http run c door old follows.as_logged none);
      own = refl;
      goes_on = λ no. no;
      slots = λ l more. refl;
      logged = after_heard server http run c door old follows.as_logged bytes;
      shows = fronts_quiet server run (Heard c bytes) (λ channel. refl) fronts;
    }

    pub middle_shown : (n : ℕ) → 1 ≤ length old.due → Middle (Showed c (take n old.due)) (record old { due = drop n old.due })
    middle_shown n some =
        let logged = after_shown server http run c door old follows.as_logged n in
        record {
          first = ap (λ (b : Bool). b && not (all_shown c run.past run.answers)) (first_of_turn c) ∙ ap not (due_shown server http run c door old follows.as_logged some);
          own = refl;
          goes_on = λ no. no;
          slots = λ l more. refl;
          logged = logged;
          shows = fronts_own server run (Showed c (take n old.due)) (front_due server http (with_event run (Showed c (take n old.due))) c door _ logged) fronts;
        }

    -- nothing at all
    pub idle_turn : LinkTurn server run c door false [] old run.state
    idle_turn = record {
      made = tt;
      own = All-nil (λ (event : Event). channel_of event ≡ c);
      follows = λ no. follows;
      shuts = λ l. refl;
      fronts = fronts;
      state = refl;
    }

    pub asks_none : asked_now server.talk c run.past run.answers ≡ None
    asks_none = by old.due refl
      where
        by : (due : List ℕ) → old.due ≡ due → asked_now server.talk c run.past run.answers ≡ None
        by [] is = waits server http run c door old follows.as_logged is (follows.at_rest.goes_on is) (follows.at_rest.asks_nothing is)
        by (b ∷ due) is = asks_none_due server http run c door old follows.as_logged (subst (λ (l : List ℕ). 1 ≤ length l) (sym is) (let e : 1 ≤ length (b ∷ due) = omega arith in e))

    -- it ends
    pub ended_turn : (new : Link) → old.due ≡ [] → LinkTurn server run c door true (Ended c ∷ Shut c ∷ []) new run.state
    ended_turn new none =
        let still = asked_still server run c (Ended c) refl refl refl ∙ asks_none in
        ends_with server run c door (Ended c) new
        (ap (λ (b : Bool). b && not (not (all_shown c run.past run.answers))) (first_of_turn c) ∙ ap (λ (b : Bool). not (not b)) (nothing_due_shown server http run c door old follows.as_logged none))
        refl (λ l more. refl) (λ rest. quiet_next server run c (Ended c) rest (λ no. no) still) still
        (is_so (has_broken c (run.past ++ Ended c ∷ [])) _ _ _ all has) (fronts_quiet server run (Ended c) (λ channel. refl) fronts)
      where
        is_so : (a b e l : Bool) → b ≡ true → e ≡ true → (a || (b && (e || l))) ≡ true
        is_so true b e l is_b is_e = refl
        is_so false true true l is_b is_e = refl
        is_so false true false l is_b is_e = absurd (cc is_e)
        is_so false false e l is_b is_e = absurd (cc is_b)

        all : all_shown c (run.past ++ Ended c ∷ []) run.answers ≡ true
        all = ap (λ (l : List ℕ). bytes_eq (reply_bytes (answers_to c run.answers)) l) (shown_by c run.past (Ended c ∷ []) refl) ∙ nothing_due_shown server http run c door old follows.as_logged none

        last_true : (a b : Bool) → b ≡ true → (a || (b || false)) ≡ true
        last_true true b is = refl
        last_true false true is = refl
        last_true false false is = absurd (cc is)

        has : has_ended c (run.past ++ Ended c ∷ []) ≡ true
        has = has_ended-append c run.past (Ended c ∷ []) ∙ last_true (has_ended c run.past) (c == c) (first_of_turn c)

    -- it breaks
    pub broken_turn : (new : Link) → LinkTurn server run c door true (Broke c ∷ Shut c ∷ []) new run.state
    broken_turn new =
        let still = asked_still server run c (Broke c) refl refl refl ∙ asks_none in
        ends_with server run c door (Broke c) new (first_of_turn c)
        refl (λ l more. refl) (λ rest. quiet_next server run c (Broke c) rest (λ no. no) still) still
        (broke_so (has_broken c (run.past ++ Broke c ∷ [])) _ has) (fronts_quiet server run (Broke c) (λ channel. refl) fronts)
      where
        last_true : (a b : Bool) → b ≡ true → (a || (b || false)) ≡ true
        last_true true b is = refl
        last_true false true is = refl
        last_true false false is = absurd (cc is)

        has : has_broken c (run.past ++ Broke c ∷ []) ≡ true
        has = has_broken-append c run.past (Broke c ∷ []) ∙ last_true (has_broken c run.past) (c == c) (first_of_turn c)

  module _ (event : Event) (mid : Link) (middle : Middle event mid) where
    -- some is due still
    pub part_turn : 1 ≤ length mid.due → LinkTurn server run c door false (event ∷ []) mid run.state
    part_turn some =
        let now = with_event run event in
        goes_on_with server run c door event now mid middle.first middle.own middle.slots
        (quiet_next server run c event [] middle.goes_on (subst (λ (k : ℕ). asked_now server.talk k now.past now.answers ≡ None) (sym middle.own) (asks_none_due server http now c door mid middle.logged some)))
        (over_due server http now c door mid middle.logged some)
        (record { as_logged = middle.logged; at_rest = record { goes_on = λ none. absurd (empty mid.due some none); asks_nothing = λ none. absurd (empty mid.due some none) } })
        middle.shows
      where
        empty : (l : List ℕ) → 1 ≤ length l → l ≡ [] → ⊥
        empty l some none = let e : length l ≡ 0 = ap length none in omega (arith, some, e)

    module _ (none : mid.due ≡ []) where
      now : Serving X C
      now = with_event run event

      at : (o : Option Message) → asked_now server.talk c (run.past ++ event ∷ []) run.answers ≡ o → asked_at server (with_event run event) event ≡ o
      at o is = ap (λ (k : ℕ). asked_now server.talk k (run.past ++ event ∷ []) run.answers) middle.own ∙ is

      -- it waits
      pub waiting_turn : mid.closing ≡ false → first_of mid.heard ≡ too_few → LinkTurn server run c door false (event ∷ []) mid run.state
      waiting_turn open' few =
          goes_on_with server run c door event (with_event run event) mid middle.first middle.own middle.slots
          (quiet_next server run c event [] middle.goes_on (at None (waits server http (with_event run event) c door mid middle.logged none open' few)))
          (over_open server http (with_event run event) c door mid middle.logged open')
          (record { as_logged = middle.logged; at_rest = record { goes_on = λ no. open'; asks_nothing = λ no. few } })
          middle.shows

      answered_next : (m : Message) → asked_now server.talk c (run.past ++ event ∷ []) run.answers ≡ Some m
          → after_event server run event [] ≡ with_answer server (with_event run event) (Some (answer_of server (with_event run event) c (Some m)))
      answered_next m is =
          ap (λ (o : Option (Answer C)). with_answer server (with_event run event) o) (answered_by server (with_event run event) event [] m middle.goes_on refl (at (Some m) is))
          ∙ ap (λ (k : ℕ). with_answer server (with_event run event) (Some (answer_of server (with_event run event) k (Some m)))) middle.own

      -- it asks what is answered
      answered_turn : (m : Message) (new : Link) → mid.closing ≡ false → asked_now server.talk c (run.past ++ event ∷ []) run.answers ≡ Some m
          → IsAsLogged (with_answer server (with_event run event) (Some (answer_of server (with_event run event) c (Some m)))) c door new → 1 ≤ length new.due
          → LinkTurn server run c door false (event ∷ []) new (with_answer server (with_event run event) (Some (answer_of server (with_event run event) c (Some m)))).state
      answered_turn m new open' is logged some =
          goes_on_with server run c door event (with_answer server (with_event run event) (Some (answer_of server (with_event run event) c (Some m)))) new middle.first middle.own middle.slots
          (answered_next m is)
          (over_due server http (with_answer server (with_event run event) (Some (answer_of server (with_event run event) c (Some m)))) c door new logged some)
          (record { as_logged = logged; at_rest = record { goes_on = λ no. absurd (empty new.due some no); asks_nothing = λ no. absurd (empty new.due some no) } })
          (fronts_answer server (with_event run event) (Some (answer_of server (with_event run event) c (Some m))) middle.shows)
        where
          empty : (l : List ℕ) → 1 ≤ length l → l ≡ [] → ⊥
          empty l some none = let e : length l ≡ 0 = ap length none in omega (arith, some, e)

      pub request_turn : (operator : Bool) (request : Request) (n : ℕ) → operator ≡ is_operator door → mid.closing ≡ false → first_of mid.heard ≡ whole request n
          → LinkTurn server run c door false (event ∷ [])
          (record mid { heard = drop n mid.heard; due = (server.reply run.state operator request).bytes; asked = false; closing = (server.reply run.state operator request).close })
          (state_behind server run.state operator request)
      request_turn operator request n is_operator open' is =
          subst (λ (o : Bool). LinkTurn server run c door false (event ∷ [])
          (record mid { heard = drop n mid.heard; due = (server.reply run.state o request).bytes; asked = false; closing = (server.reply run.state o request).close })
          (state_behind server run.state o request))
          (middle.logged.by_door ∙ sym is_operator)
          (answered_turn (asks request) _ open' (asks_request server http (with_event run event) c door mid middle.logged request n none open' is)
          (after_request server http (with_event run event) c door mid middle.logged none open' request n is)
          (http.reply_speaks run.state _ request))

      pub fault_turn : (status : ℕ) → mid.closing ≡ false → first_of mid.heard ≡ fault status
          → LinkTurn server run c door false (event ∷ []) (record mid { due = written (fault_reply status); closing = true }) run.state
      fault_turn status open' is =
          answered_turn (faults status) _ open' (is_at_fault server http (with_event run event) c door mid middle.logged status none open' is)
          (after_fault server http (with_event run event) c door mid middle.logged none open' status is)
          (written_some (fault_reply status))

      -- it is over
      pub last_turn : (new : Link) → mid.closing ≡ true → LinkTurn server run c door true (event ∷ Shut c ∷ []) new run.state
      last_turn new last =
          let no_more = asks_no_more server http (with_event run event) c door mid middle.logged last in
          ends_with server run c door event new middle.first middle.own middle.slots
          (λ rest. quiet_next server run c event rest middle.goes_on (at None no_more)) no_more
          (over_last server http (with_event run event) c door mid middle.logged none last) middle.shows

      -- it gives up
      pub giving_up_turn : (new : Link) → mid.closing ≡ false → new.ended ≡ false → new.asked ≡ false → new.due ≡ unavailable → new.closing ≡ true
          → LinkTurn server run c door false (event ∷ GaveUp c ∷ []) new run.state
      giving_up_turn new open' ended asked due closing =
          gives_up_behind server run c door event new middle.first middle.own middle.goes_on middle.slots
          (by (asked_now server.talk c (run.past ++ event ∷ []) run.answers) refl)
          (nothing_due_shown server http (with_event run event) c door mid middle.logged none)
          (after_giving_up server http (with_event run event) c door mid middle.logged none new ended asked due closing)
          due middle.shows
        where
          due_over : (b e s : Bool) → b ≡ false → s ≡ false → (b || (s && e)) ≡ false
          due_over true e s is_b is_s = absurd (cc is_b)
          due_over false e true is_b is_s = absurd (cc is_s)
          due_over false e false is_b is_s = refl

          by : (o : Option Message) → asked_now server.talk c (run.past ++ event ∷ []) run.answers ≡ o → is_over c (run.past ++ event ∷ []) (after_event server run event []).answers ≡ false
          by None is =
              ap (λ (r : Serving X C). is_over c (run.past ++ event ∷ []) r.answers) (quiet_next server run c event [] middle.goes_on (at None is))
              ∙ over_open server http (with_event run event) c door mid middle.logged open'
          by (Some m) is =
              ap (λ (r : Serving X C). is_over c (run.past ++ event ∷ []) r.answers) (answered_next m is)
              ∙ due_over _ _ _ middle.logged.not_broken (answer_due server http (with_event run event) c door mid middle.logged none open' m)
