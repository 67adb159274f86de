-- A link's turn on a site, from what its calls came to.
use Rattle.std.proofs.Common.{◌≡◌, ◌∙◌, ◌==◌, ℕ, Bool, true, false, not, List, [], ◌∷◌, ◌++◌, ◌&&◌, ◌||◌, take, drop, Option, Some, None, if◌then◌else◌, refl, sym, ap, subst, append_assoc, inl, inr, ◌⊎◌, ⊎_elim}
use Rattle.std.specs.Prelude.{IsTrue}
use Rattle.std.proofs.lemmas.Bool.{eq-eqb, eqb-true}
use Rattle.ox_outside.specs.Counts.{Rose}
use Rattle.ox_outside.specs.Event.{Event, Opened, Heard, Ended, Showed, Broke, GaveUp, Shut, channel_of, give_up_events, shut_events}
use Rattle.ox_outside.specs.Log.{Adds}
use Rattle.ox_outside.specs.declared.site.Doorway.{Doorway}
use Rattle.ox_outside.specs.declared.site.Site.{Ghosts as Meanings}
use Rattle.ox_http.specs.declared.Request.{Request}
use Rattle.ox_http.specs.First.{First, first_of, whole, more as too_few, fault}
use Rattle.ox_http.specs.Talk.{Message, asks, faults}
use Rattle.ox_http.specs.Written.{fault_reply, unavailable, written}
use Rattle.ox_session.specs.Link.{Link}
use Rattle.ox_links.specs.GoesOn.{GoesOnWithout}
use Rattle.ox_links.specs.Link.{all_shown, asked_now, is_operator, is_operators}
use Rattle.ox_links.specs.Serving.{Server, Serving, with_event, gives_up}
use Rattle.ox_links.specs.Turned.{is_first}
use Rattle.ox_links.proofs.Moments.{IsGivingUp}
use Rattle.ox_turns.specs.Desk.{IsHttp, state_behind}
use Rattle.ox_turns.specs.Follows.{LinkFollows}
use Rattle.ox_turns.specs.Turn.{Comes, DeskAnswers, DeskGoes, DeskTurns, Goes, HeardMore, IsLinkTurn, LinkCut, LinkTurn, LinkTurns, ShownSome, ShowsFronts}
use Rattle.ox_turns.specs.declared.link.Came.TheVariants.{Nothing, Part, More, NoMemory, Over}
use Rattle.ox_turns.specs.declared.link.Next.TheVariants.{Rests, NoMemory as NoneLeft, Over as Ends}
use Rattle.ox_turns.proofs.Answering.{asks_no_more, asks_none_due, waits, asks_request, is_at_fault}
use Rattle.ox_turns.proofs.Turning.{Middle, fronts_event, asks_none, asked_still, middle_heard, middle_shown, idle_turn, ended_turn, broken_turn, part_turn, waiting_turn, request_turn, fault_turn, last_turn, giving_up_turn}

-- a call that adds these events to this log
pub after_adds : (events : List Event → List Event) (log : List Event) (old new : Option (List Event)) → old ≡ Some log → Adds events old new → new ≡ Some (log ++ events log)
after_adds events log old new is adds = subst (λ (o : Option (List Event)). Adds events o new) is adds

-- and behind them one event more
pub then_one : (log events more : List Event) (now : Option (List Event)) → now ≡ Some ((log ++ events) ++ more) → now ≡ Some (log ++ (events ++ more))
then_one log events more now is = is ∙ ap (λ (l : List Event). Some l) (append_assoc log events more)

-- ---- what a turn's first event is

pub first_own : (c : ℕ) (due : Bool) (event : Event) → IsTrue (is_first c due event) → (channel_of event ≡ c) × (IsGivingUp event → ⊥)
first_own c due (Opened d door) is = absurd (cc is)
first_own c due (Heard d bytes) is = (eqb-true d c (left d c (not due) is), λ no. no)
  where
    left : (d c : ℕ) (b : Bool) → ((d == c) && b) ≡ true → (d == c) ≡ true
    left d c b is = by (d == c) b is
      where
        by : (a b : Bool) → (a && b) ≡ true → a ≡ true
        by true b is = refl
        by false b is = is
first_own c due (Ended d) is = (eqb-true d c (by (d == c) (not due) is), λ no. no)
  where
    by : (a b : Bool) → (a && b) ≡ true → a ≡ true
    by true b is = refl
    by false b is = is
first_own c due (Showed d bytes) is = (eqb-true d c (by (d == c) due is), λ no. no)
  where
    by : (a b : Bool) → (a && b) ≡ true → a ≡ true
    by true b is = refl
    by false b is = is
first_own c due (Broke d) is = (eqb-true d c is, λ no. no)
first_own c due (GaveUp d) is = absurd (cc is)
first_own c due (Shut d) is = absurd (cc is)

unless_own : (event : Event) (rest : List Event) (channel : ℕ) → (IsGivingUp event → ⊥) → gives_up channel (event ∷ rest) ≡ (if channel_of event == channel then false else gives_up channel rest)
unless_own (GaveUp c) rest channel goes_on = absurd (goes_on tt)
unless_own (Opened c door) rest channel goes_on = refl
unless_own (Heard c bytes) rest channel goes_on = refl
unless_own (Ended c) rest channel goes_on = refl
unless_own (Showed c bytes) rest channel goes_on = refl
unless_own (Broke c) rest channel goes_on = refl
unless_own (Shut c) rest channel goes_on = refl

-- no link begins a turn by giving up
pub link_goes_on : {X C : Type 0} (server : Server X C) (run : Serving X C) (c : ℕ) (events : List Event) → IsLinkTurn server run c events → GoesOnWithout events
link_goes_on server run c [] turn channel = refl
link_goes_on server run c (event ∷ rest) turn channel =
    let own = first_own c (not (all_shown c run.past run.answers)) event turn.0 in
    unless_own event rest channel own.1
    ∙ ap (λ (k : ℕ). if k == channel then false else gives_up channel rest) own.0
    ∙ ⊎_elim (λ is. shut _ is) (λ up. by (c == channel) refl rest up.0) turn.1
  where
    either : (b : Bool) → (if b then false else false) ≡ false
    either true = refl
    either false = refl

    by : (b : Bool) → (c == channel) ≡ b → (rest : List Event) → rest ≡ GaveUp c ∷ [] → (if b then false else gives_up channel rest) ≡ false
    by true is rest up = refl
    by false is rest up = ap (gives_up channel) up ∙ ap (λ (b : Bool). b || false) is

    shut : (over : Bool) → rest ≡ (if over then Shut c ∷ [] else []) → (if c == channel then false else gives_up channel rest) ≡ false
    shut true is = ap (λ (l : List Event). if c == channel then false else gives_up channel l) is ∙ ap (λ (b : Bool). if c == channel then false else b) (either (c == channel)) ∙ either (c == channel)
    shut false is = ap (λ (l : List Event). if c == channel then false else gives_up channel l) is ∙ either (c == channel)

-- ---- the event of a call that came to something

module _ {X C : Type 0} (server : Server X C) (http : IsHttp server) (run : Serving X C) (c : ℕ) (door : Doorway) (old : Link) (follows : LinkFollows run c door old) (fronts : ShowsFronts run) where
  pub record Begins (events : List Event) (mid : Link) : Type 0 where
    pub event : Event
    pub is : events ≡ event ∷ []
    pub middle : Middle server http run c door fronts event mid

  pub begins : (events : List Event) (mid : Link) → (HeardMore c old mid events ⊎ ShownSome c old mid events) → Begins events mid
  begins events mid (inl h) = record {
    event = Heard c h.1;
    is = h.2;
    middle = subst (λ (l : Link). Middle server http run c door fronts (Heard c h.1) l) (sym h.3) (middle_heard server http run c door fronts old follows h.1 h.0);
  }
  begins events mid (inr s) = record {
    event = Showed c (take s.1 old.due);
    is = s.2;
    middle = subst (λ (l : Link). Middle server http run c door fronts (Showed c (take s.1 old.due)) l) (sym s.3) (middle_shown server http run c door fronts old follows s.1 s.0);
  }

-- ---- the turns

module _ {S X C D : Type 0} (means : Meanings S) (server : Server X C) (http : IsHttp server) (moved : D → Request → Bool → D → Type 0) (same : D → D → Type 0) (run : Serving X C) (log : List Event) (c : ℕ) (door : Doorway)
    (old : Link) (follows : LinkFollows run c door old) (fronts : ShowsFronts run) (before after : S) (now : X) (old_desk new_desk : D) where
  abbrev Made : Bool → Link → Type 0
  Made over new = LinkTurns means server moved same run log c door over before after new now old_desk new_desk

  desk_none : (b operator : Bool) → new_desk ≡ old_desk → DeskAnswers moved same operator b None old_desk new_desk
  desk_none true operator is = is
  desk_none false operator is = is

  desk_fault : (b operator : Bool) (status : ℕ) → new_desk ≡ old_desk → DeskAnswers moved same operator b (Some (faults status)) old_desk new_desk
  desk_fault true operator status is = is
  desk_fault false operator status is = is

  desk_up : (operator : Bool) (o : Option Message) → new_desk ≡ old_desk → DeskAnswers moved same operator true o old_desk new_desk
  desk_up operator None is = is
  desk_up operator (Some (asks request)) is = inl is
  desk_up operator (Some (faults status)) is = is

  -- from a turn, with the log and the desk
  made_by : (over : Bool) (event : Event) (rest : List Event) (new : Link) → means.log after ≡ Some (log ++ (event ∷ rest)) → (y : X) → now ≡ y → LinkTurn server run c door over (event ∷ rest) new y
      → DeskTurns moved same server run c (event ∷ rest) old_desk new_desk → Made over new
  made_by over event rest new logged y is turn desk = record {
    events = event ∷ rest;
    logged = logged;
    idle = λ none. absurd (cc none);
    turn = subst (λ (x : X). LinkTurn server run c door over (event ∷ rest) new x) (sym is) turn;
    desk = desk;
  }

  pub made_nothing : (events : List Event) (new : Link) → Comes Nothing c old new events → Adds (λ log. events) (means.log before) (means.log after) → means.log before ≡ Some log
      → Rose ((means.counts before).not_yets c) ((means.counts after).not_yets c) → now ≡ run.state → new_desk ≡ old_desk → Made false new
  made_nothing events new comes adds is rose state desk = record {
    events = [];
    logged = after_adds (λ log. events) log _ _ is adds ∙ ap (λ (l : List Event). Some (log ++ l)) comes.0;
    idle = λ none. rose;
    turn = subst (λ (l : Link). LinkTurn server run c door false [] l now) (sym comes.1) (subst (λ (x : X). LinkTurn server run c door false [] old x) (sym state) (idle_turn server http run c door fronts old follows));
    desk = desk;
  }

  asked_none_of : (event : Event) (rest : List Event) → asked_now server.talk c (run.past ++ event ∷ []) run.answers ≡ None → new_desk ≡ old_desk → DeskTurns moved same server run c (event ∷ rest) old_desk new_desk
  asked_none_of event rest none desk = subst (λ (o : Option Message). DeskAnswers moved same (is_operators c run.past) (gives_up c rest) o old_desk new_desk) (sym none) (desk_none (gives_up c rest) (is_operators c run.past) desk)

  ups : gives_up c (GaveUp c ∷ []) ≡ true
  ups = ap (λ (b : Bool). b || false) (eq-eqb c c refl)

  logged_one : (events : List Event) (event : Event) (at : Option (List Event)) → events ≡ event ∷ [] → Adds (λ log. events) (means.log before) at → means.log before ≡ Some log → at ≡ Some (log ++ event ∷ [])
  logged_one events event at is adds first = after_adds (λ log. events) log _ at first adds ∙ ap (λ (l : List Event). Some (log ++ l)) is

  pub made_part : (events : List Event) (new : Link) → Comes Part c old new events → Adds (λ log. events) (means.log before) (means.log after) → means.log before ≡ Some log → now ≡ run.state → new_desk ≡ old_desk → Made false new
  made_part events new comes adds first state desk =
      let b = begins server http run c door old follows fronts events new (inr comes.0) in
      made_by false b.event [] new (logged_one events b.event (means.log after) b.is adds first) run.state state (part_turn server http run c door fronts b.event new b.middle comes.1)
      (asked_none_of b.event [] (asks_none_due server http (with_event run b.event) c door new b.middle.logged comes.1) desk)

  -- after a call that may ask
  module _ (events : List Event) (mid : Link) (comes : Comes More c old mid events) (between : Option (List Event)) (adds : Adds (λ log. events) (means.log before) between) (first : means.log before ≡ Some log) where
    pub made_rests : (new : Link) → means.log after ≡ between → Goes server (is_operator door) Rests mid new run.state now → DeskGoes moved same (is_operator door) Rests (first_of mid.heard) old_desk new_desk → Made false new
    made_rests new logged goes desk = by goes.1
      where
        b : Begins server http run c door old follows fronts events mid
        b = begins server http run c door old follows fronts events mid comes.0

        at : means.log after ≡ Some (log ++ b.event ∷ [])
        at = logged ∙ logged_one events b.event between b.is adds first

        says : (f : First) → first_of mid.heard ≡ f → DeskGoes moved same (is_operator door) Rests f old_desk new_desk
        says f is = subst (λ (x : First). DeskGoes moved same (is_operator door) Rests x old_desk new_desk) is desk

        by : (((first_of mid.heard ≡ too_few) × (new ≡ mid) × (now ≡ run.state))
            ⊎ (((request : Request) × (n : ℕ) × (first_of mid.heard ≡ whole request n)
            × (new ≡ record mid { heard = drop n mid.heard; due = (server.reply run.state (is_operator door) request).bytes; asked = false; closing = (server.reply run.state (is_operator door) request).close })
            × (now ≡ state_behind server run.state (is_operator door) request))
            ⊎ ((status : ℕ) × (first_of mid.heard ≡ fault status) × (new ≡ record mid { due = written (fault_reply status); closing = true }) × (now ≡ run.state)))) → Made false new
        by (inl w) = made_by false b.event [] new at run.state w.2 (subst (λ (l : Link). LinkTurn server run c door false (b.event ∷ []) l run.state) (sym w.1) (waiting_turn server http run c door fronts b.event mid b.middle comes.1 goes.0 w.0))
            (asked_none_of b.event [] (waits server http (with_event run b.event) c door mid b.middle.logged comes.1 goes.0 w.0) (says too_few w.0))
        by (inr (inl r)) =
            made_by false b.event [] new at _ r.4 (subst (λ (l : Link). LinkTurn server run c door false (b.event ∷ []) l (state_behind server run.state (is_operator door) r.0)) (sym r.3) (request_turn server http run c door fronts b.event mid b.middle comes.1 (is_operator door) r.0 r.1 refl goes.0 r.2))
            (subst (λ (o : Option Message). DeskAnswers moved same (is_operators c run.past) false o old_desk new_desk) (sym (asks_request server http (with_event run b.event) c door mid b.middle.logged r.0 r.1 comes.1 goes.0 r.2))
            (subst (λ (o : Bool). moved old_desk r.0 o new_desk) (sym follows.as_logged.by_door) (says (whole r.0 r.1) r.2)))
        by (inr (inr f)) =
            made_by false b.event [] new at run.state f.3 (subst (λ (l : Link). LinkTurn server run c door false (b.event ∷ []) l run.state) (sym f.2) (fault_turn server http run c door fronts b.event mid b.middle comes.1 f.0 goes.0 f.1))
            (subst (λ (o : Option Message). DeskAnswers moved same (is_operators c run.past) false o old_desk new_desk) (sym (is_at_fault server http (with_event run b.event) c door mid b.middle.logged f.0 comes.1 goes.0 f.1))
            (desk_fault false (is_operators c run.past) f.0 (says (fault f.0) f.1)))

    pub made_up : (last new : Link) (end : Option (List Event)) → end ≡ between → Adds (give_up_events c) end (means.log after) → Goes server (is_operator door) NoneLeft mid last run.state now
        → DeskGoes moved same (is_operator door) NoneLeft (first_of mid.heard) old_desk new_desk → old.ended ≡ false → new ≡ record last { due = unavailable; asked = false; closing = true } → Made false new
    made_up last new end same_end up goes desk listens is =
        made_by false b.event (GaveUp c ∷ []) new
        (then_one log (b.event ∷ []) (GaveUp c ∷ []) (means.log after) (after_adds (give_up_events c) (log ++ b.event ∷ []) end (means.log after) (same_end ∙ logged_one events b.event between b.is adds first) up))
        run.state goes.3
        (giving_up_turn server http run c door fronts b.event mid b.middle comes.1 new goes.0 (ap (λ (l : Link). l.ended) is ∙ goes.2 ∙ b.middle.logged.not_ended.1) (ap (λ (l : Link). l.asked) is) (ap (λ (l : Link). l.due) is) (ap (λ (l : Link). l.closing) is))
        (subst (λ (x : Bool). DeskAnswers moved same (is_operators c run.past) x (asked_now server.talk c (run.past ++ b.event ∷ []) run.answers) old_desk new_desk) (sym ups) (by (first_of mid.heard) refl desk))
      where
        b : Begins server http run c door old follows fronts events mid
        b = begins server http run c door old follows fronts events mid comes.0

        by : (f : First) → first_of mid.heard ≡ f → DeskGoes moved same (is_operator door) NoneLeft f old_desk new_desk → DeskAnswers moved same (is_operators c run.past) true (asked_now server.talk c (run.past ++ b.event ∷ []) run.answers) old_desk new_desk
        by (whole request n) f gone = subst (λ (o : Option Message). DeskAnswers moved same (is_operators c run.past) true o old_desk new_desk) (sym (asks_request server http (with_event run b.event) c door mid b.middle.logged request n comes.1 goes.0 f)) gone
        by too_few f gone = desk_up (is_operators c run.past) _ gone
        by (fault status) f gone = desk_up (is_operators c run.past) _ gone

    pub made_over : (new : Link) (end : Option (List Event)) → end ≡ between → Adds (shut_events c) end (means.log after) → Goes server (is_operator door) Ends mid new run.state now
        → DeskGoes moved same (is_operator door) Ends (first_of mid.heard) old_desk new_desk → Made true new
    made_over new end same_end shut goes desk =
        let b = begins server http run c door old follows fronts events mid comes.0 in
        made_by true b.event (Shut c ∷ []) new
        (then_one log (b.event ∷ []) (Shut c ∷ []) (means.log after) (after_adds (shut_events c) (log ++ b.event ∷ []) end (means.log after) (same_end ∙ logged_one events b.event between b.is adds first) shut))
        run.state goes.2
        (last_turn server http run c door fronts b.event mid b.middle comes.1 new goes.0)
        (asked_none_of b.event (Shut c ∷ []) (asks_no_more server http (with_event run b.event) c door mid b.middle.logged goes.0) desk)

    -- the desk failed
    pub cut_short : (end : Option (List Event)) → end ≡ between → LinkCut server run log c end
    cut_short end same_end =
        let b = begins server http run c door old follows fronts events mid comes.0 in
        record { event = b.event; logged = same_end ∙ logged_one events b.event between b.is adds first; first = b.middle.first; fronts = fronts_event server run b.event [] b.middle.shows }

  pub made_no_memory : (events : List Event) (mid new : Link) (between : Option (List Event)) → Comes NoMemory c old mid events → Adds (λ log. events) (means.log before) between → means.log before ≡ Some log
      → Adds (give_up_events c) between (means.log after) → now ≡ run.state → new_desk ≡ old_desk → new ≡ record mid { due = unavailable; asked = false; closing = true } → Made false new
  made_no_memory events mid new between comes adds first up state desk is =
      let heard = record old { heard = old.heard ++ comes.1 } in
      let middle = middle_heard server http run c door fronts old follows comes.1 comes.0 in
      made_by false (Heard c comes.1) (GaveUp c ∷ []) new
      (then_one log (Heard c comes.1 ∷ []) (GaveUp c ∷ []) (means.log after) (after_adds (give_up_events c) (log ++ Heard c comes.1 ∷ []) between (means.log after) (logged_one events (Heard c comes.1) between comes.2 adds first) up))
      run.state state
      (giving_up_turn server http run c door fronts (Heard c comes.1) heard middle comes.0 new (follows.at_rest.goes_on comes.0) (ap (λ (l : Link). l.ended) is ∙ ap (λ (l : Link). l.ended) comes.3 ∙ follows.as_logged.not_ended.1) (ap (λ (l : Link). l.asked) is) (ap (λ (l : Link). l.due) is) (ap (λ (l : Link). l.closing) is))
      (subst (λ (x : Bool). DeskAnswers moved same (is_operators c run.past) x (asked_now server.talk c (run.past ++ Heard c comes.1 ∷ []) run.answers) old_desk new_desk) (sym ups) (desk_up (is_operators c run.past) _ desk))

  pub made_end : (events : List Event) (mid new : Link) (between : Option (List Event)) → Comes Over c old mid events → Adds (λ log. events) (means.log before) between → means.log before ≡ Some log
      → Adds (shut_events c) between (means.log after) → now ≡ run.state → new_desk ≡ old_desk → Made true new
  made_end events mid new between comes adds first shut state desk = by comes.0
    where
      none : asked_now server.talk c run.past run.answers ≡ None
      none = asks_none server http run c door fronts old follows

      by : (((old.due ≡ []) × (events ≡ Ended c ∷ [])) ⊎ (events ≡ Broke c ∷ [])) → Made true new
      by (inl e) =
          made_by true (Ended c) (Shut c ∷ []) new
          (then_one log (Ended c ∷ []) (Shut c ∷ []) (means.log after) (after_adds (shut_events c) (log ++ Ended c ∷ []) between (means.log after) (logged_one events (Ended c) between e.1 adds first) shut))
          run.state state (ended_turn server http run c door fronts old follows new e.0)
          (asked_none_of (Ended c) (Shut c ∷ []) (asked_still server run c (Ended c) refl refl refl ∙ none) desk)
      by (inr e) =
          made_by true (Broke c) (Shut c ∷ []) new
          (then_one log (Broke c ∷ []) (Shut c ∷ []) (means.log after) (after_adds (shut_events c) (log ++ Broke c ∷ []) between (means.log after) (logged_one events (Broke c) between e adds first) shut))
          run.state state (broken_turn server http run c door fronts old follows new)
          (asked_none_of (Broke c) (Shut c ∷ []) (asked_still server run c (Broke c) refl refl refl ∙ none) desk)
