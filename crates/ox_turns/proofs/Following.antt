-- Slots and other links, as a log goes on.
use Rattle.std.proofs.Common.{◌<◌, ◌≡◌, ◌∙◌, ◌==◌, ℕ, zero, suc, Bool, true, false, not, List, [], ◌∷◌, ◌++◌, ◌&&◌, ◌||◌, length, drop, get_or, set, Option, Some, None, if◌then◌else◌, refl, sym, ap, subst, arith, ⊎_elim}
use Rattle.std.specs.Prelude.{slice_get}
use Rattle.std.proofs.lemmas.Bool.{eq-eqb, eqb-true}
use Rattle.ox_outside.specs.Event.{Event, Opened, Heard, Ended, Showed, Broke, GaveUp, Shut, channel_of, heard_bytes, shown_bytes, has_ended, has_broken, has_given_up, is_named, was_opened, was_shut}
use Rattle.ox_outside.specs.declared.site.Doorway.{Doorway}
use Rattle.ox_outside.proofs.Event.{was_opened-append}
use Rattle.ox_outside.proofs.Links.{unnamed_heard, unnamed_shown, unnamed_ended, unnamed_broken, unnamed_given_up, unnamed_shut}
use Rattle.ox_http.specs.First.{first_of, front_of, head_length, more as too_few}
use Rattle.ox_http.specs.Talk.{Message, talk, talk_behind}
use Rattle.ox_session.specs.Link.{Link, new_link}
use Rattle.ox_links.specs.Link.{Answer, answers_to, asked_now, all_shown, is_operator, is_operators, last_closes, reply_bytes}
use Rattle.ox_links.specs.Rotation.{slots_after, with_link, without_link}
use Rattle.ox_links.specs.Serving.{Server, Serving, with_event, after_event, serve_on}
use Rattle.ox_links.proofs.Apart.{after_event_apart}
use Rattle.ox_links.proofs.GoingOn.{after_past}
use Rattle.ox_turns.specs.Desk.{IsHttp}
use Rattle.ox_turns.specs.Follows.{IsAsLogged, LinkFollows}
use Rattle.ox_turns.specs.Turn.{IsLinkTurn}
use Rattle.ox_turns.proofs.Answering.{Flags, flags_by, heard_by, shown_by, given_up_by}
use Rattle.ox_turns.proofs.LinkTurns.{first_own}
use Rattle.ox_turns.proofs.Turning.{quiet_next}

-- ---- an event of another link

record IsAnothers (d : ℕ) (event : Event) : Type 0 where
  shut : was_shut d (event ∷ []) ≡ false
  broken : has_broken d (event ∷ []) ≡ false
  ended : has_ended d (event ∷ []) ≡ false
  up : has_given_up d (event ∷ []) ≡ false
  heard : heard_bytes d (event ∷ []) ≡ []
  shown : shown_bytes d (event ∷ []) ≡ []

no_more : (b : Bool) → b ≡ false → (b || false) ≡ false
no_more true is = is
no_more false is = refl

passed_over : (b : Bool) (x : List ℕ) → b ≡ false → (if b then x else []) ≡ []
passed_over true x is = absurd (cc is)
passed_over false x is = refl

anothers : (d : ℕ) (event : Event) → (channel_of event == d) ≡ false → IsAnothers d event
anothers d (Opened c door) other = record { shut = refl; broken = refl; ended = refl; up = refl; heard = refl; shown = refl }
anothers d (Heard c bytes) other = record { shut = refl; broken = refl; ended = refl; up = refl; heard = passed_over (c == d) (bytes ++ []) other; shown = refl }
anothers d (Ended c) other = record { shut = refl; broken = refl; ended = no_more (c == d) other; up = refl; heard = refl; shown = refl }
anothers d (Showed c bytes) other = record { shut = refl; broken = refl; ended = refl; up = refl; heard = refl; shown = passed_over (c == d) (bytes ++ []) other }
anothers d (Broke c) other = record { shut = refl; broken = no_more (c == d) other; ended = refl; up = refl; heard = refl; shown = refl }
anothers d (GaveUp c) other = record { shut = refl; broken = refl; ended = refl; up = no_more (c == d) other; heard = refl; shown = refl }
anothers d (Shut c) other = record { shut = no_more (c == d) other; broken = refl; ended = refl; up = refl; heard = refl; shown = refl }

module _ {X C : Type 0} (server : Server X C) (d : ℕ) (door : Doorway) (link : Link) where
  -- it is as logged in a run with such a past and such answers
  in_past : (run : Serving X C) (past : List Event) (answers : List (Answer C)) → IsAsLogged run d door link
      → Flags d run.past past → has_given_up d past ≡ has_given_up d run.past → heard_bytes d past ≡ heard_bytes d run.past → shown_bytes d past ≡ shown_bytes d run.past
      → answers_to d answers ≡ answers_to d run.answers → (next : Serving X C) → next.past ≡ past → next.answers ≡ answers → IsAsLogged next d door link
  in_past run past answers logged flags up heard shown same next is_past is_answers =
      let own : answers_to d next.answers ≡ answers_to d run.answers = ap (answers_to d) is_answers ∙ same in
      let h : heard_bytes d next.past ≡ heard_bytes d run.past = ap (heard_bytes d) is_past ∙ heard in
      let u : has_given_up d next.past ≡ has_given_up d run.past = ap (has_given_up d) is_past ∙ up in
      record {
        opened = ap (was_opened d) is_past ∙ flags.opened logged.opened;
        not_shut = ap (was_shut d) is_past ∙ flags.shut ∙ logged.not_shut;
        not_broken = ap (has_broken d) is_past ∙ flags.broken ∙ logged.not_broken;
        not_ended = (ap (has_ended d) is_past ∙ flags.ended ∙ logged.not_ended.0, logged.not_ended.1);
        by_door = ap (is_operators d) is_past ∙ flags.by_door logged.opened ∙ logged.by_door;
        answered = logged.answered;
        given = ap reply_bytes own ∙ logged.given ∙ ap (λ (l : List ℕ). l ++ link.due) (sym (ap (shown_bytes d) is_past ∙ shown));
        closing = logged.closing ∙ sym (ap last_closes own);
        gave_up = λ is. logged.gave_up (sym u ∙ is);
        pending = λ on later. ap (λ (n : ℕ). drop n (talk (heard_bytes d next.past ++ later))) (ap length own) ∙ ap (λ (l : List ℕ). drop (length (answers_to d run.answers)) (talk (l ++ later))) h ∙ logged.pending on later;
        no_more = λ last is later. ap (λ (n : ℕ). drop n (talk (heard_bytes d next.past ++ later))) (ap length own) ∙ ap (λ (l : List ℕ). drop (length (answers_to d run.answers)) (talk (l ++ later))) h ∙ logged.no_more last (sym u ∙ is) later;
      }

  pub logged_other : (run : Serving X C) (event : Event) (rest : List Event) → (channel_of event == d) ≡ false → IsAsLogged run d door link → IsAsLogged (after_event server run event rest) d door link
  logged_other run event rest other logged =
      let a = anothers d event other in
      in_past run (run.past ++ event ∷ []) (after_event server run event rest).answers logged
      (flags_by d run.past (event ∷ []) a.shut a.broken a.ended) (given_up_by d run.past (event ∷ []) a.up) (heard_by d run.past (event ∷ []) a.heard) (shown_by d run.past (event ∷ []) a.shown)
      (after_event_apart server d run event rest other) (after_event server run event rest) (after_past server run event rest) refl

  -- all are of this link
  abbrev OwnAll : ℕ → List Event → Type 0
  OwnAll c [] = Unit {0}
  OwnAll c (event ∷ events) = (channel_of event ≡ c) × OwnAll c events

  logged_on : (c : ℕ) (run : Serving X C) (events : List Event) → (c == d) ≡ false → OwnAll c events → IsAsLogged run d door link → IsAsLogged (serve_on server run events) d door link
  logged_on c run [] other own logged = logged
  logged_on c run (event ∷ events) other own logged =
      logged_on c (after_event server run event events) events other own.1 (logged_other run event events (ap (λ (k : ℕ). k == d) own.0 ∙ other) logged)

  own_turn : (c : ℕ) (run : Serving X C) (events : List Event) → IsLinkTurn server run c events → OwnAll c events
  own_turn c run [] turn = tt
  own_turn c run (event ∷ rest) turn = ((first_own c _ event turn.0).0, ⊎_elim (λ is. shut _ is) (λ up. subst (OwnAll c) (sym up.0) (refl, tt)) turn.1)
    where
      shut : (over : Bool) → rest ≡ (if over then Shut c ∷ [] else []) → OwnAll c rest
      shut true is = subst (OwnAll c) (sym is) (refl, tt)
      shut false is = subst (OwnAll c) (sym is) tt

  -- behind a turn of another link
  pub follows_other : (c : ℕ) (run : Serving X C) (events : List Event) → (c ≡ d → ⊥) → IsLinkTurn server run c events → LinkFollows run d door link → LinkFollows (serve_on server run events) d door link
  follows_other c run events apart turn follows = record {
    as_logged = logged_on c run events (by (c == d) refl) (own_turn c run events turn) follows.as_logged;
    at_rest = follows.at_rest;
  }
    where
      by : (b : Bool) → (c == d) ≡ b → b ≡ false
      by true is = absurd (apart (eqb-true c d is))
      by false is = refl

-- ---- slots

pub slots_after-append : (slots : List (Option ℕ)) (x y : List Event) → slots_after slots (x ++ y) ≡ slots_after (slots_after slots x) y
slots_after-append slots [] y = refl
slots_after-append slots (Opened c door ∷ x) y = slots_after-append (with_link c slots) x y
slots_after-append slots (Shut c ∷ x) y = slots_after-append (without_link c slots) x y
slots_after-append slots (_ ∷ x) y = slots_after-append slots x y

without_none : (c : ℕ) (l : List (Option ℕ)) → ((j : ℕ) → get_or l j None ≡ Some c → ⊥) → without_link c l ≡ l
without_none c [] none = refl
without_none c (None ∷ l) none = ap (λ (x : List (Option ℕ)). None ∷ x) (without_none c l (λ j is. none (suc j) is))
without_none c (Some k ∷ l) none = by (k == c) refl (without_none c l (λ j is. none (suc j) is))
  where
    by : (b : Bool) → (k == c) ≡ b → without_link c l ≡ l → ((if b then None else Some k) ∷ without_link c l) ≡ Some k ∷ l
    by true is rest = absurd (none 0 (ap (λ (n : ℕ). Some n) (eqb-true k c is)))
    by false is rest = ap (λ (x : List (Option ℕ)). Some k ∷ x) rest

pub without_is : (c : ℕ) (l : List (Option ℕ)) (i : ℕ) → get_or l i None ≡ Some c → ((j : ℕ) → get_or l j None ≡ Some c → j ≡ i) → without_link c l ≡ set l i None
without_is c [] i at only = absurd (cc at)
without_is c (None ∷ l) zero at only = absurd (cc at)
without_is c (Some k ∷ l) zero at only =
    ap (λ (b : Bool). (if b then None else Some k) ∷ without_link c l) (eq-eqb k c (cc at))
    ∙ ap (λ (x : List (Option ℕ)). None ∷ x) (without_none c l (λ j is. let e : suc j ≡ 0 = only (suc j) is in omega (arith, e)))
without_is c (None ∷ l) (suc i) at only = ap (λ (x : List (Option ℕ)). None ∷ x) (without_is c l i at (λ j is. let e : suc j ≡ suc i = only (suc j) is in omega (arith, e)))
without_is c (Some k ∷ l) (suc i) at only = by (k == c) refl (without_is c l i at (λ j is. let e : suc j ≡ suc i = only (suc j) is in omega (arith, e)))
  where
    by : (b : Bool) → (k == c) ≡ b → without_link c l ≡ set l i None → ((if b then None else Some k) ∷ without_link c l) ≡ Some k ∷ set l i None
    by true is rest = absurd (let e : 0 ≡ suc i = only 0 (ap (λ (n : ℕ). Some n) (eqb-true k c is)) in omega (arith, e))
    by false is rest = ap (λ (x : List (Option ℕ)). Some k ∷ x) rest

pub with_is : (c : ℕ) (l : List (Option ℕ)) (i : ℕ) → i < length l → get_or l i None ≡ None → ((j : ℕ) → j < i → get_or l j None ≡ None → ⊥) → with_link c l ≡ set l i (Some c)
with_is c [] i within free lowest = absurd (omega (arith, within))
with_is c (None ∷ l) zero within free lowest = refl
with_is c (Some k ∷ l) zero within free lowest = absurd (cc free)
with_is c (None ∷ l) (suc i) within free lowest = absurd (lowest 0 (omega arith) refl)
with_is c (Some k ∷ l) (suc i) within free lowest = ap (λ (x : List (Option ℕ)). Some k ∷ x) (with_is c l i (let e : suc i < suc (length l) = within in omega (arith, e)) free (λ j below. lowest (suc j) (omega (arith, below))))

-- ---- a link that comes

pub is_named-append : (c : ℕ) (x y : List Event) → is_named c (x ++ y) ≡ (is_named c x || is_named c y)
is_named-append c [] y = refl
is_named-append c (event ∷ x) y = either (channel_of event == c) _ _ _ (is_named-append c x y)
  where
    either : (b x y z : Bool) → x ≡ (y || z) → (b || x) ≡ ((b || y) || z)
    either true x y z is = refl
    either false x y z is = is

pub right_false : (a b : Bool) → (a || b) ≡ false → b ≡ false
right_false true b is = absurd (cc is)
right_false false b is = is

pub left_false : (a b : Bool) → (a || b) ≡ false → a ≡ false
left_false true b is = is
left_false false b is = refl

talk_nil : talk [] ≡ []
unfolding talk talk_behind
talk_nil = refl

pub first_nil : first_of [] ≡ too_few
unfolding first_of front_of head_length
first_nil = refl

new_by_door : (c : ℕ) (door : Doorway) (log : List Event) → is_named c log ≡ false → is_operators c (log ++ Opened c door ∷ []) ≡ is_operator door
new_by_door c door [] none = ap (λ (b : Bool). if b then is_operator door else false) (eq-eqb c c refl)
new_by_door c door (Opened d other ∷ log) none = ap (λ (b : Bool). if b then is_operator other else is_operators c (log ++ Opened c door ∷ [])) (left_false (d == c) (is_named c log) none) ∙ new_by_door c door log (right_false (d == c) (is_named c log) none)
new_by_door c door (Heard d bytes ∷ log) none = new_by_door c door log (right_false (d == c) (is_named c log) none)
new_by_door c door (Ended d ∷ log) none = new_by_door c door log (right_false (d == c) (is_named c log) none)
new_by_door c door (Showed d bytes ∷ log) none = new_by_door c door log (right_false (d == c) (is_named c log) none)
new_by_door c door (Broke d ∷ log) none = new_by_door c door log (right_false (d == c) (is_named c log) none)
new_by_door c door (GaveUp d ∷ log) none = new_by_door c door log (right_false (d == c) (is_named c log) none)
new_by_door c door (Shut d ∷ log) none = new_by_door c door log (right_false (d == c) (is_named c log) none)

module _ {X C : Type 0} (server : Server X C) where
  pub no_answers : (c : ℕ) (run : Serving X C) (log : List Event) → is_named c log ≡ false → answers_to c (serve_on server run log).answers ≡ answers_to c run.answers
  no_answers c run [] none = refl
  no_answers c run (event ∷ log) none =
      no_answers c (after_event server run event log) log (right_false (channel_of event == c) (is_named c log) none)
      ∙ after_event_apart server c run event log (left_false (channel_of event == c) (is_named c log) none)

  module _ (http : IsHttp server) (run : Serving X C) (c : ℕ) (door : Doorway) (unnamed : is_named c run.past ≡ false) (none : answers_to c run.answers ≡ []) where
    new_asks_none : asked_now server.talk c (run.past ++ Opened c door ∷ []) run.answers ≡ None
    new_asks_none = by (all_shown c (run.past ++ Opened c door ∷ []) run.answers) (has_given_up c (run.past ++ Opened c door ∷ []))
      where
        nothing : slice_get (server.talk (heard_bytes c (run.past ++ Opened c door ∷ []))) (length (answers_to c run.answers)) ≡ None
        nothing = ap (λ (l : List ℕ). slice_get (server.talk l) (length (answers_to c run.answers))) (heard_by c run.past (Opened c door ∷ []) refl ∙ unnamed_heard c run.past unnamed)
            ∙ ap (λ (l : List Message). slice_get l (length (answers_to c run.answers))) (http.talk [] ∙ talk_nil)

        by : (a up : Bool) → (if a && not up then slice_get (server.talk (heard_bytes c (run.past ++ Opened c door ∷ []))) (length (answers_to c run.answers)) else None) ≡ None
        by true true = refl
        by true false = nothing
        by false up = refl

    pub new_next : after_event server run (Opened c door) [] ≡ with_event run (Opened c door)
    new_next = quiet_next server run c (Opened c door) [] (λ no. no) new_asks_none

    pub new_follows : LinkFollows (with_event run (Opened c door)) c door new_link
    new_follows =
        let more = Opened c door ∷ [] in
        let flags = flags_by c run.past more refl refl refl in
        let heard : heard_bytes c (run.past ++ more) ≡ [] = heard_by c run.past more refl ∙ unnamed_heard c run.past unnamed in
        let up : has_given_up c (run.past ++ more) ≡ false = given_up_by c run.past more refl ∙ unnamed_given_up c run.past unnamed in
        record {
          as_logged = record {
            opened = was_opened-append c run.past more ∙ or_true (was_opened c run.past) (c == c) (eq-eqb c c refl);
            not_shut = flags.shut ∙ unnamed_shut c run.past unnamed;
            not_broken = flags.broken ∙ unnamed_broken c run.past unnamed;
            not_ended = (flags.ended ∙ unnamed_ended c run.past unnamed, refl);
            by_door = new_by_door c door run.past unnamed;
            answered = refl;
            given = ap reply_bytes none ∙ ap (λ (l : List ℕ). l ++ []) (sym (shown_by c run.past more refl ∙ unnamed_shown c run.past unnamed));
            closing = sym (ap last_closes none);
            gave_up = λ is. absurd (let e : true ≡ false = sym is ∙ up in cc e);
            pending = λ on later. ap (λ (n : ℕ). drop n (talk (heard_bytes c (run.past ++ more) ++ later))) (ap length none) ∙ ap (λ (l : List ℕ). talk (l ++ later)) heard;
            no_more = λ last. absurd (cc last);
          };
          at_rest = record { goes_on = λ no. refl; asks_nothing = λ no. first_nil };
        }
      where
        or_true : (a b : Bool) → b ≡ true → (a || (b || false)) ≡ true
        or_true true b is = refl
        or_true false true is = refl
        or_true false false is = absurd (cc is)
