-- What a crash leaves during a link's turn.
use Rattle.std.proofs.Common.{◌≡◌, ◌∙◌, ◌≤◌, ℕ, Bool, true, false, List, [], ◌∷◌, ◌++◌, length, drop, arith, Option, Some, None, refl, sym, ap, subst, inl, inr, ◌⊎◌, ⊎_elim}
use Rattle.std.specs.Prelude.{IsTrue}
use Rattle.std.proofs.lemmas.List.{append-nil}
use Rattle.ox_outside.specs.Crash.{Remains, OneCall}
use Rattle.ox_outside.specs.Event.{Event, Heard, Ended, Broke, has_given_up, is_open, shown_bytes, was_shut}
use Rattle.ox_outside.specs.Files.{Files}
use Rattle.std.specs.Option.{ForSome}
use Rattle.ox_outside.specs.Log.{Adds, Grows}
use Rattle.ox_outside.specs.Runs.{LeavesOnly, OnlyTalks, Talked}
use Rattle.ox_outside.specs.declared.site.Doorway.{Doorway}
use Rattle.ox_outside.specs.declared.site.Site.{Ghosts as Meanings}
use Rattle.ox_outside.proofs.Calls.{leaves_on, leaves_then, leaves_weaker}
use Rattle.ox_outside.proofs.Links.{still_open, still_whole}
use Rattle.ox_outside.proofs.Log.{grows_weaker}
use Rattle.ox_http.specs.declared.Request.{Request}
use Rattle.ox_http.specs.First.{first_of, whole, fault, more as too_few}
use Rattle.ox_http.specs.Written.{fault_reply, written}
use Rattle.ox_session.specs.Link.{Link}
use Rattle.ox_links.specs.Link.{is_operator}
use Rattle.ox_links.specs.Serving.{Server, Serving, serve_on, served_by, start_at}
use Rattle.ox_links.specs.Survives.{Survives}
use Rattle.ox_links.proofs.GoingOn.{serve_on-append}
use Rattle.ox_links.proofs.Moments.{IsGivingUp}
use Rattle.ox_turns.specs.Desk.{IsHttp, state_behind}
use Rattle.ox_turns.specs.Follows.{LinkFollows}
use Rattle.ox_turns.specs.Turn.{Comes, ComesTo, Goes, IsGoing, IsReady, LinkTurn, LinkTurns, ShowsFronts, StandsForNext}
use Rattle.ox_turns.specs.declared.link.Came.{Came}
use Rattle.ox_turns.specs.declared.link.Came.TheVariants.{Nothing, Part, More, NoMemory, Over}
use Rattle.ox_turns.specs.declared.link.Next.TheVariants.{Rests}
use Rattle.ox_turns.proofs.Answering.{written_some}
use Rattle.ox_turns.proofs.Coming.{LogsNow}
use Rattle.ox_turns.proofs.LinkTurns.{after_adds, begins, link_goes_on}
use Rattle.ox_turns.proofs.Surviving.{settled, one_step, one_more_event}
use Rattle.ox_turns.proofs.Turning.{Middle, fronts_event, fronts_quiet, request_turn}

-- two things that are left
pub leaves_both : {S : Type 0} (means : Meanings S) (old new : S) (P Q : Remains → Type 0) → LeavesOnly means old new P → LeavesOnly means old new Q → LeavesOnly means old new (λ r. P r × Q r)
leaves_both means old new P Q p q = record {
  later = p.later;
  each = λ r left. (p.each r left, q.each r left);
  before = λ t r le left. ⊎_elim (λ l. inl l) (λ x. ⊎_elim (λ l. inl l) (λ y. inr (x, y)) (q.before t r le left)) (p.before t r le left);
}

module _ {S X C : Type 0} (means : Meanings S) (server : Server X C) (stands : Files → X → Type 0) (first : X) (past since : List Event) (before : S) (is_log : means.log before ≡ Some (past ++ since)) (fronts : ShowsFronts (served_by server first since)) where
  -- what is left survives, from the start of the turn on
  abbrev pub Left : Remains → Type 0
  Left r = Grows (λ added. Survives server first stands (since ++ added) r.files) (means.log before) (Some r.log)

  pub left_at : (r : Remains) (added : List Event) → Some r.log ≡ Some ((past ++ since) ++ added) → Survives server first stands (since ++ added) r.files → Left r
  left_at r added is survives = subst (λ (o : Option (List Event)). Grows (λ added. Survives server first stands (since ++ added) r.files) o (Some r.log)) (sym is_log) (added, is, survives)

  pub survives_none : (files : Files) → stands files (served_by server first since).state → Survives server first stands (since ++ []) files
  survives_none files is = subst (λ (l : List Event). Survives server first stands l files) (sym (append-nil since)) (settled server first stands files since fronts is)

  -- during a call that adds these events and leaves files as they are
  pub call_left : (after : S) (events : List Event) → ((r : Remains) → means.may_leave before r → stands r.files (served_by server first since).state)
      → ((files : Files) → stands files (served_by server first since).state → Survives server first stands (since ++ events) files)
      → OnlyTalks means (λ added. (added ≡ []) ⊎ (added ≡ events)) before after → LeavesOnly means before after Left
  call_left after events stood survives talks =
      leaves_weaker means before after (Talked means (λ added. (added ≡ []) ⊎ (added ≡ events)) before) Left
      (λ r talked. grows_weaker (λ added. (added ≡ []) ⊎ (added ≡ events)) (λ added. Survives server first stands (since ++ added) r.files) (means.log before) (Some r.log)
      (λ added a. by r.files (subst (λ (f : Files). stands f (served_by server first since).state) (sym talked.files.2) (stood talked.files.0 talked.files.1)) added a) talked.grown)
      talks.moments
    where
      by : (files : Files) → stands files (served_by server first since).state → (added : List Event) → ((added ≡ []) ⊎ (added ≡ events)) → Survives server first stands (since ++ added) files
      by files is added (inl none) = subst (λ (l : List Event). Survives server first stands (since ++ l) files) (sym none) (survives_none files is)
      by files is added (inr all) = subst (λ (l : List Event). Survives server first stands (since ++ l) files) (sym all) (survives files is)

  -- behind a turn that was made
  pub end_left : (c : ℕ) (door : Doorway) (over : Bool) (events : List Event) (new : Link) (now : X) (after : S) → LogsNow means → means.log after ≡ Some ((past ++ since) ++ events)
      → LinkTurn server (served_by server first since) c door over events new now → ((r : Remains) → means.may_leave after r → stands r.files now) → (r : Remains) → means.may_leave after r → Left r
  end_left c door over events new now after logs_now logged turn stood r left =
      let is : served_by server first (since ++ events) ≡ serve_on server (served_by server first since) events = serve_on-append server (start_at first) since events (link_goes_on server (served_by server first since) c events turn.made) in
      left_at r events (sym (logs_now after r left) ∙ logged)
      (settled server first stands r.files (since ++ events) (subst (λ (x : Serving X C). ShowsFronts x) (sym is) turn.fronts)
      (subst (stands r.files) (turn.state ∙ ap (λ (x : Serving X C). x.state) (sym is)) (stood r left)))

  module _ (http : IsHttp server) (c : ℕ) (door : Doorway) (event : Event) (mid : Link) (middle : Middle server http (served_by server first since) c door fronts event mid) where
    fronts_next : ShowsFronts (served_by server first (since ++ event ∷ []))
    fronts_next = subst (λ (x : Serving X C). ShowsFronts x) (sym (one_more_event server first since event middle.goes_on)) (fronts_event server (served_by server first since) event [] middle.shows)

    pub survives_event : (files : Files) → stands files (served_by server first since).state → Survives server first stands (since ++ event ∷ []) files
    survives_event files is = one_step server first stands files since event middle.goes_on fronts_next (inl is)

    -- while what is asked is answered
    pub answer_left : (from to : S) (x : X) → mid.due ≡ [] → x ≡ (served_by server first since).state → means.log from ≡ Some ((past ++ since) ++ event ∷ [])
        → LeavesOnly means from to (λ r. StandsForNext server stands (is_operator door) mid x r.files) → LeavesOnly means from to (λ r. means.log from ≡ Some r.log) → LeavesOnly means from to Left
    answer_left from to x none state logged files logs =
        leaves_weaker means from to (λ r. StandsForNext server stands (is_operator door) mid x r.files × (means.log from ≡ Some r.log)) Left
        (λ r both. left_at r (event ∷ []) (sym both.1 ∙ logged) (by r.files both.0))
        (leaves_both means from to (λ r. StandsForNext server stands (is_operator door) mid x r.files) (λ r. means.log from ≡ Some r.log) files logs)
      where
        run : Serving X C
        run = served_by server first since

        by : (files : Files) → StandsForNext server stands (is_operator door) mid x files → Survives server first stands (since ++ event ∷ []) files
        by files (inl is) = survives_event files (subst (stands files) state is)
        by files (inr p) =
            let turn = request_turn server http run c door fronts event mid middle none (is_operator door) p.0 p.1 refl p.3 p.2 in
            let is : stands files (state_behind server run.state (is_operator door) p.0) = subst (λ (y : X). stands files (state_behind server y (is_operator door) p.0)) state p.4 in
            one_step server first stands files since event middle.goes_on fronts_next
            (inr (subst (stands files) (turn.state ∙ ap (λ (r : Serving X C). r.state) (sym (one_more_event server first since event middle.goes_on))) is))

    survives_next : (events : List Event) → events ≡ event ∷ [] → (files : Files) → stands files (served_by server first since).state → Survives server first stands (since ++ events) files
    survives_next events is files stood = subst (λ (l : List Event). Survives server first stands (since ++ l) files) (sym is) (survives_event files stood)

  -- an event that brings nothing
  pub quiet_event : (event : Event) → (IsGivingUp event → ⊥) → ((channel : ℕ) → shown_bytes channel (event ∷ []) ≡ []) → (events : List Event) → events ≡ event ∷ []
      → (files : Files) → stands files (served_by server first since).state → Survives server first stands (since ++ events) files
  quiet_event event goes_on none events is files stood =
      subst (λ (l : List Event). Survives server first stands (since ++ l) files) (sym is)
      (one_step server first stands files since event goes_on
      (subst (λ (x : Serving X C). ShowsFronts x) (sym (one_more_event server first since event goes_on)) (fronts_event server (served_by server first since) event [] (fronts_quiet server (served_by server first since) event none fronts)))
      (inl stood))

  module _ (http : IsHttp server) (c : ℕ) (door : Doorway) (old : Link) (follows : LinkFollows (served_by server first since) c door old) where
    run : Serving X C
    run = served_by server first since

    survives_call : (came : Came) (mid : Link) (events : List Event) → Comes came c old mid events → (files : Files) → stands files (served_by server first since).state → Survives server first stands (since ++ events) files
    survives_call Nothing mid events comes = λ files stood. subst (λ (l : List Event). Survives server first stands (since ++ l) files) (sym comes.0) (survives_none files stood)
    survives_call Part mid events comes =
        let b = begins server http (served_by server first since) c door old follows fronts events mid (inr comes.0) in
        survives_next http c door b.event mid b.middle events b.is
    survives_call More mid events comes =
        let b = begins server http (served_by server first since) c door old follows fronts events mid comes.0 in
        survives_next http c door b.event mid b.middle events b.is
    survives_call NoMemory mid events comes = quiet_event (Heard c comes.1) (λ no. no) (λ channel. refl) events comes.2
    survives_call Over mid events comes = ⊎_elim (λ e. quiet_event (Ended c) (λ no. no) (λ channel. refl) events e.1) (λ e. quiet_event (Broke c) (λ no. no) (λ channel. refl) events e) comes.0

    -- during the call of its turn
    pub came_left : (came : Came) (mid : Link) (after : S) → ComesTo means came c old mid before after → ((r : Remains) → means.may_leave before r → stands r.files (served_by server first since).state) → LeavesOnly means before after Left
    came_left came mid after to stood = call_left after to.events stood (survives_call came mid to.events to.comes) to.talks

    -- and while what is asked is answered
    pub more_left : (mid : Link) (between to : S) (came : ComesTo means More c old mid before between) → ((r : Remains) → means.may_leave before r → stands r.files (served_by server first since).state)
        → (x : X) → x ≡ (served_by server first since).state
        → LeavesOnly means between to (λ r. StandsForNext server stands (is_operator door) mid x r.files) → LeavesOnly means between to (λ r. means.log between ≡ Some r.log) → LeavesOnly means before to Left
    more_left mid between to came stood x state files logs =
        let b = begins server http (served_by server first since) c door old follows fronts came.events mid came.comes.0 in
        let logged = after_adds (λ log. came.events) (past ++ since) (means.log before) (means.log between) is_log came.adds ∙ ap (λ (l : List Event). Some ((past ++ since) ++ l)) b.is in
        leaves_then means before between to Left (came_left More mid between came stood)
        (answer_left http c door b.event mid b.middle between to x came.comes.1 state logged files logs)

  -- a last call
  pub finish_left : {D : Type 0} (moved : D → Request → Bool → D → Type 0) (same : D → D → Type 0) (c : ℕ) (door : Doorway) (over : Bool) (new : Link) (now : X) (old_desk new_desk : D) (to after : S) → LogsNow means
      → LinkTurns means server moved same (served_by server first since) (past ++ since) c door over before after new now old_desk new_desk
      → LeavesOnly means before to Left → OneCall means.told means.counts means.clock means.may_leave means.left_since to after → ((r : Remains) → means.may_leave after r → stands r.files now) → LeavesOnly means before after Left
  finish_left moved same c door over new now old_desk new_desk to after logs_now made so_far call stood =
      leaves_on means before to after Left so_far call (end_left c door over made.events new now after logs_now made.logged made.turn stood)

-- ---- a link goes on

module _ (c : ℕ) where
  keeps : (came : Came) (old mid : Link) (events : List Event) → Comes came c old mid events → (was_shut c events ≡ false) × (has_given_up c events ≡ false) × (mid.closing ≡ old.closing)
  keeps Nothing old mid events comes = (ap (was_shut c) comes.0, ap (has_given_up c) comes.0, ap (λ (l : Link). l.closing) comes.1)
  keeps Part old mid events comes = (ap (was_shut c) comes.0.2, ap (has_given_up c) comes.0.2, ap (λ (l : Link). l.closing) comes.0.3)
  keeps More old mid events comes = ⊎_elim
      (λ h. (ap (was_shut c) h.2, ap (has_given_up c) h.2, ap (λ (l : Link). l.closing) h.3))
      (λ s. (ap (was_shut c) s.2, ap (has_given_up c) s.2, ap (λ (l : Link). l.closing) s.3)) comes.0
  keeps NoMemory old mid events comes = (ap (was_shut c) comes.2, ap (has_given_up c) comes.2, ap (λ (l : Link). l.closing) comes.3)
  keeps Over old mid events comes = ⊎_elim
      (λ e. (ap (was_shut c) e.1, ap (has_given_up c) e.1, ap (λ (l : Link). l.closing) comes.1))
      (λ e. (ap (was_shut c) e, ap (has_given_up c) e, ap (λ (l : Link). l.closing) comes.1)) comes.0

  goes_still : (old : Link) (closing : Bool) (events : List Event) (first now : Option (List Event)) → Adds (λ log. events) first now → ForSome first (IsGoing c old) → was_shut c events ≡ false → has_given_up c events ≡ false → closing ≡ old.closing
      → (x : List Event) → now ≡ Some x → IsTrue (is_open c x) × (closing ≡ false → has_given_up c x ≡ false)
  goes_still old closing events None now adds going shut up same x is = absurd (let e : None ≡ Some x = sym adds ∙ is in let no : ⊥ = cc e in no)
  goes_still old closing events (Some log) now adds going shut up same x is =
      let g = going log refl in
      let e : log ++ events ≡ x = cc (sym adds ∙ is) in (
        subst (λ (l : List Event). is_open c l ≡ true) e (still_open c log events shut g.opened),
        λ on. subst (λ (l : List Event). has_given_up c l ≡ false) e (still_whole c log events up (g.not_up (sym same ∙ on))),
      )

  pub going_on_still : {S : Type 0} (means : Meanings S) (came : Came) (old mid : Link) (before after : S) → ComesTo means came c old mid before after → ForSome (means.log before) (IsGoing c old)
      → (x : List Event) → means.log after ≡ Some x → IsTrue (is_open c x) × (mid.closing ≡ false → has_given_up c x ≡ false)
  going_on_still means came old mid before after to going =
      let k = keeps came old mid to.events to.comes in
      goes_still old mid.closing to.events (means.log before) (means.log after) to.adds going k.0 k.1 k.2

-- ---- a session is ready for the next turn

some_due : (link : Link) → link.asked ≡ false → link.ended ≡ false → 1 ≤ length link.due → IsReady link
some_due link asked ended some = record {
  answered = asked;
  listens = ended;
  at_rest = record { goes_on = λ none. absurd (empty link.due some none); asks_nothing = λ none. absurd (empty link.due some none) };
}
  where
    empty : (l : List ℕ) → 1 ≤ length l → l ≡ [] → ⊥
    empty l some none = let e : length l ≡ 0 = ap length none in omega (arith, some, e)

module _ {X C : Type 0} (server : Server X C) (http : IsHttp server) where
  pub ready_rests : (c : ℕ) (old mid : Link) (events : List Event) → Comes More c old mid events → (operator : Bool) (new : Link) (x y : X) → Goes server operator Rests mid new x y → IsReady old → IsReady new
  ready_rests c old mid events comes operator new x y goes ready = by goes.1
    where
      asked : mid.asked ≡ false
      asked = ⊎_elim (λ h. ap (λ (l : Link). l.asked) h.3 ∙ ready.answered) (λ s. ap (λ (l : Link). l.asked) s.3 ∙ ready.answered) comes.0

      ended : mid.ended ≡ false
      ended = ⊎_elim (λ h. ap (λ (l : Link). l.ended) h.3 ∙ ready.listens) (λ s. ap (λ (l : Link). l.ended) s.3 ∙ ready.listens) comes.0

      by : (((first_of mid.heard ≡ too_few) × (new ≡ mid) × (y ≡ x))
          ⊎ (((request : Request) × (n : ℕ) × (first_of mid.heard ≡ whole request n)
          × (new ≡ record mid { heard = drop n mid.heard; due = (server.reply x operator request).bytes; asked = false; closing = (server.reply x operator request).close })
          × (y ≡ state_behind server x operator request))
          ⊎ ((status : ℕ) × (first_of mid.heard ≡ fault status) × (new ≡ record mid { due = written (fault_reply status); closing = true }) × (y ≡ x)))) → IsReady new
      by (inl w) = subst IsReady (sym w.1) (record { answered = asked; listens = ended; at_rest = record { goes_on = λ none. goes.0; asks_nothing = λ none. w.0 } })
      by (inr (inl r)) = subst IsReady (sym r.3) (some_due (record mid { heard = drop r.1 mid.heard; due = (server.reply x operator r.0).bytes; asked = false; closing = (server.reply x operator r.0).close }) refl ended (http.reply_speaks x operator r.0))
      by (inr (inr f)) = subst IsReady (sym f.2) (some_due (record mid { due = written (fault_reply f.0); closing = true }) asked ended (written_some (fault_reply f.0)))
