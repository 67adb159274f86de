-- How a run of turns goes on: what is known behind so many of them, and what the next one makes of it.
use Rattle.std.proofs.Common.{◌≡◌, ◌∙◌, ◌≤◌, ◌<◌, ℕ, zero, suc, ◌+◌, Bool, List, [], ◌∷◌, ◌++◌, length, Option, Some, None, refl, sym, ap, subst, arith, inl, append_assoc}
use Rattle.std.specs.Prelude.{get_or, replicate, Result, Err}
use Rattle.std.proofs.lemmas.List.{append-nil}
use Rattle.std.proofs.lemmas.List.Elements.{All-nil}
use Rattle.std.proofs.lemmas.Option.{same_Some}
use Rattle.ox_outside.specs.Counts.{Counts, NoneFell}
use Rattle.ox_outside.specs.Crash.{Remains}
use Rattle.ox_outside.specs.Event.{Event}
use Rattle.ox_outside.specs.Files.{Files}
use Rattle.ox_outside.specs.Log.{Grows}
use Rattle.ox_outside.specs.Runs.{LeavesOnly}
use Rattle.ox_outside.specs.Shown.{acknowledgements}
use Rattle.ox_outside.specs.declared.site.Site.{Ghosts as Meanings}
use Rattle.ox_outside.proofs.Calls.{leaves_at_first, leaves_then, leaves_weaker}
use Rattle.ox_outside.proofs.Log.{grows_none}
use Rattle.ox_http.specs.declared.Request.{Request}
use Rattle.ox_links.specs.Link.{Answer}
use Rattle.ox_links.specs.Quiet.{Speaks}
use Rattle.ox_links.specs.Rotation.{Who, door_of, link_of}
use Rattle.ox_links.specs.Serving.{Server, served_by}
use Rattle.ox_links.specs.Survives.{Survives}
use Rattle.ox_links.specs.Turned.{AreTurns, CountsIdles, CutShort, IsFewer, IsTurn, Turn, Turned, logged_by}
use Rattle.ox_turns.specs.Follows.{Follows, ShowsFrontsIn, Start}
use Rattle.ox_turns.specs.Places.{Places}
use Rattle.ox_turns.specs.declared.slot.Slot.{Slot}
use Rattle.ox_turns.specs.Turn.{DeskOf, FollowsSome, OneTurn, TurnCut}
use Rattle.ox_turns.specs.declared.turns.TurnFault.{TurnFault}
use Rattle.ox_turns.specs.declared.turns.TurnFault.TheVariants as turn_faults
use Rattle.ox_app.specs.Along.{GoesAlong}
use Rattle.ox_app.specs.Turns.{MadeTurns, fault_of_turn}
use Rattle.ox_app.specs.declared.server.ServeFault.{ServeFault}
use Rattle.ox_app.specs.declared.server.ServeFault.TheVariants as faults
use Rattle.ox_app.proofs.TurnAnswers.{Goes, door_went, link_went}
use Rattle.ox_app.proofs.MoreTurns.{cut_so, idle_one, idles_join, idles_none, logged_more, one_more, one_turn, turned_so, turns_more}
use Rattle.ox_app.proofs.DeskAlong.{along_then, many_after, many_of_run}

-- ---- what a crash leaves

-- before the first event a crash leaves what stands for the state
pub survives_none : {X C : Type 0} (server : Server X C) (first : X) (stands : Files → X → Type 0) (files : Files) → stands files first → Survives server first stands [] files
unfolding acknowledgements
survives_none {C = C} server first stands files is = record {
  kept = 0;
  stands_for = is;
  counted = inl refl;
  acknowledged = λ channel. All-nil (λ (a : Answer C). a.commands ≤ 0);
  shown = λ channel some. ([], refl);
}

-- ---- behind so many turns

-- since a log as it stood, where these places follow
pub record WentOn {X C D : Type 0} (server : Server X C) (state : D → X) (moved : D → Request → Bool → D → Type 0) (same : D → D → Type 0)
    (n : ℕ) (past : List Event) (old : Counts) (desk : D) (places : Places) (log : Option (List Event)) (new : Counts) (next : D) : Type 0 where
  pub turns : List Turn
  pub many : length turns ≡ n
  pub logged : log ≡ Some (past ++ logged_by turns)
  pub made : AreTurns server (state desk) [] 0 turns places.place
  pub idles : CountsIdles turns old new
  pub follows : Follows server (record { log = past; state = state desk }) (logged_by turns) places.slots (state next)
  pub goes : GoesAlong server state moved same 0 desk (served_by server (state desk) (logged_by turns)).answers next

module _ {X C D : Type 0} (server : Server X C) (speaks : Speaks server) (state : D → X) (moved : D → Request → Bool → D → Type 0) (same : D → D → Type 0)
    (past : List Event) (counts : Counts) (desk : D) where
  abbrev start : Start X
  start = record { log = past; state = state desk }

  abbrev Went : ℕ → Places → Option (List Event) → Counts → D → Type 0
  Went n places log new next = WentOn server state moved same n past counts desk places log new next

  pub went_none : (places : Places) (log : Option (List Event)) → log ≡ Some past → places.place ≡ 0 → Follows server start [] places.slots (state desk) → Went 0 places log counts desk
  went_none places log is first follows = record {
    turns = [];
    many = refl;
    logged = is ∙ ap (λ (l : List Event). Some l) (sym (append-nil past));
    made = sym first;
    idles = idles_none counts;
    follows = follows;
    goes = refl;
  }

  -- the way of a desk in a turn
  went_along : (since : List Event) (who : Who) (events : List Event) (mid next : D) → IsTurn server (state desk) since who events → state mid ≡ (served_by server (state desk) since).state
      → DeskOf moved same server (served_by server (state desk) since) who events mid next → Goes server (state desk) state moved same since events mid next
  went_along since (door_of door) events mid next turn is goes = door_went server speaks (state desk) state moved same since mid next door events turn goes
  went_along since (link_of c) events mid next turn is goes = link_went server speaks (state desk) state moved same since mid next c events turn is goes

  -- a turn more
  pub went_more : {S : Type 0} (means : Meanings S) (before after : S) (n : ℕ) (mid new : Places) (desk2 desk3 : D) → NoneFell (means.counts before) (means.counts after)
      → (went : Went n mid (means.log before) (means.counts before) desk2)
      → OneTurn means server moved same start (logged_by went.turns) mid new before after (state desk3) desk2 desk3 → Went (n + 1) new (means.log after) (means.counts after) desk3
  went_more means before after n mid new desk2 desk3 fell went one =
      let since = logged_by went.turns in
      let turn = one.turn in
      let events = turn.events in
      let all = went.turns ++ one_turn one.who events ∷ [] in
      let all_logged : since ++ events ≡ logged_by all = sym (logged_more went.turns one.who events) in
      let made = turns_more server (state desk) 0 mid.place one.at went.turns one.who events went.made one.whose turn.made in
      let answers = (served_by server (state desk) since).answers in
      let accepted : (served_by server (state desk) since).accepted ≡ many_after 0 answers = many_of_run server (state desk) since in
      let along = went_along since one.who events desk2 desk3 turn.made went.follows.state turn.desk in
      let goes_now : GoesAlong server state moved same (many_after 0 answers) desk2 along.answers desk3 =
      subst (λ (k : ℕ). GoesAlong server state moved same k desk2 along.answers desk3) accepted along.goes in
      let goes_all = along_then server state moved same 0 desk desk2 desk3 answers along.answers went.goes goes_now in
      record {
        turns = all;
        many = let e = went.many in let f = one_more went.turns (one_turn one.who events) in omega (arith, e, f);
        logged = turn.logged ∙ ap (λ (l : List Event). Some l) (append_assoc past since events) ∙ ap (λ (l : List Event). Some (past ++ l)) all_logged;
        made = subst (λ (k : ℕ). AreTurns server (state desk) [] 0 all k) (sym one.on) made;
        idles = idles_join went.turns (one_turn one.who events ∷ []) counts (means.counts before) (means.counts after) fell went.idles
            (idle_one one.who events (means.counts before) (means.counts after) fell turn.idle);
        follows = subst (λ (l : List Event). Follows server start l new.slots (state desk3)) all_logged turn.follows;
        goes = subst (λ (l : List Event). GoesAlong server state moved same 0 desk (served_by server (state desk) l).answers desk3) all_logged
            (subst (λ (l : List (Answer C)). GoesAlong server state moved same 0 desk l desk3) (sym along.answered) goes_all);
      }

  -- all of them
  pub went_all : (n times : ℕ) (places : Places) (log : Option (List Event)) (new : Counts) (next : D) → n ≡ times → Went n places log new next
      → (added : List Event) × (log ≡ Some (past ++ added)) × MadeTurns server state moved same times counts new desk next added
  went_all n times places log new next all went = (
    logged_by went.turns,
    went.logged,
    record {
      turned = subst (λ (k : ℕ). Turned server (state desk) k counts new (logged_by went.turns)) (went.many ∙ all) (turned_so server (state desk) counts new went.turns places.place went.made went.idles);
      goes = went.goes;
    },
  )

  -- a turn that was cut short
  pub went_cut : (n times : ℕ) (places : Places) (log now : Option (List Event)) (new : Counts) (next : D) → n < times → (went : Went n places log new next)
      → TurnCut server start (logged_by went.turns) places.place now → (added : List Event) × (now ≡ Some (past ++ added)) × CutShort server (state desk) times added
  went_cut n times places log now new next fewer went cut = (
    logged_by went.turns ++ cut.events,
    cut.logged ∙ ap (λ (l : List Event). Some l) (append_assoc past (logged_by went.turns) cut.events),
    cut_so server (state desk) times went.turns places.place cut.events (let e = went.many in omega (arith, e, fewer)) went.made cut.cut,
  )

  -- a turn that logged nothing, and ended the run
  pub went_fewer : (n times : ℕ) (places : Places) (log now : Option (List Event)) (new : Counts) (next : D) → n < times → Went n places log new next → now ≡ log
      → (added : List Event) × (now ≡ Some (past ++ added)) × IsFewer server (state desk) times added
  went_fewer n times places log now new next fewer went same = (
    logged_by went.turns,
    same ∙ went.logged,
    record { turns = went.turns; fewer = let e = went.many in omega (arith, e, fewer); end = places.place; made = went.made; logged = refl },
  )

  -- what was shown behind them, and where one was cut short
  pub went_shown : (n : ℕ) (places : Places) (log : Option (List Event)) (new : Counts) (next : D) → Went n places log new next
      → (added : List Event) × (log ≡ Some (past ++ added)) × ShowsFrontsIn server (state desk) added
  went_shown n places log new next went = (logged_by went.turns, went.logged, went.follows.shown)

  pub cut_shown : (n : ℕ) (places : Places) (log now : Option (List Event)) (new : Counts) (next : D) → (went : Went n places log new next)
      → TurnCut server start (logged_by went.turns) places.place now → (added : List Event) × (now ≡ Some (past ++ added)) × ShowsFrontsIn server (state desk) added
  cut_shown n places log now new next went cut =
      (logged_by went.turns ++ cut.events, cut.logged ∙ ap (λ (l : List Event). Some l) (append_assoc past (logged_by went.turns) cut.events), cut.fronts)

-- of a log that is told or isn't
pub can_follow : {X C D : Type 0} (server : Server X C) (state : D → X) (moved : D → Request → Bool → D → Type 0) (same : D → D → Type 0)
    (n : ℕ) (first log : Option (List Event)) (old new : Counts) (desk next : D) (places : Places) → (first ≡ None → log ≡ None)
    → ((past : List Event) → first ≡ Some past → WentOn server state moved same n past old desk places log new next) → (x : List Event) → log ≡ Some x → FollowsSome server places.slots (state next) x
can_follow server state moved same n None log old new desk next places untold told x is = absurd (let e : Some x ≡ None = sym is ∙ untold refl in cc e)
can_follow server state moved same n (Some past) log old new desk next places untold told x is =
    let went = told past refl in
    (record { log = past; state = state desk }, logged_by went.turns, same_Some x (past ++ logged_by went.turns) (sym is ∙ went.logged), went.follows)

pub grows_by : (P : List Event → Type 0) (log now : Option (List Event)) → (log ≡ None → now ≡ None)
    → ((past : List Event) → log ≡ Some past → (added : List Event) × (now ≡ Some (past ++ added)) × P added) → Grows P log now
grows_by P None now untold told = untold refl
grows_by P (Some past) now untold told = told past refl

-- ---- at each moment

module _ {S X C : Type 0} (means : Meanings S) (server : Server X C) (first : X) (stands : Files → X → Type 0) (old : S) where
  -- what a crash leaves at a moment survives what was logged since the first one
  abbrev pub Lasts : Remains → Type 0
  Lasts r = Grows (λ events. Survives server first stands events r.files) (means.log old) (Some r.log)

  pub lasts_first : ((site : S) (r : Remains) → means.left_since site (means.clock site) r → means.may_leave site r)
      → ((site : S) (r : Remains) → means.may_leave site r → means.log site ≡ Some r.log)
      → ((r : Remains) → means.may_leave old r → stands r.files first) → LeavesOnly means old old Lasts
  lasts_first only_now logs_now stood = leaves_at_first means old Lasts (λ r left.
      let now = only_now old r left in
      subst (λ (l : Option (List Event)). Grows (λ events. Survives server first stands events r.files) l (Some r.log)) (sym (logs_now old r now))
      ([], ap (λ (l : List Event). Some l) (sym (append-nil r.log)), survives_none server first stands r.files (stood r now)))

  lasts_at : (past since : List Event) (before : Option (List Event)) (r : Remains) → means.log old ≡ Some past → before ≡ Some (past ++ since)
      → Grows (λ events. Survives server first stands (since ++ events) r.files) before (Some r.log) → Lasts r
  lasts_at past since None r is stood grown = absurd (let e : None ≡ Some (past ++ since) = stood in let no : ⊥ = cc e in no)
  lasts_at past since (Some log) r is stood grown =
      let same : log ≡ past ++ since = same_Some log (past ++ since) stood in
      subst (λ (l : Option (List Event)). Grows (λ events. Survives server first stands events r.files) l (Some r.log)) (sym is)
      (since ++ grown.0, grown.1 ∙ ap (λ (l : List Event). Some (l ++ grown.0)) same ∙ ap (λ (l : List Event). Some l) (append_assoc past since grown.0), grown.2)

  pub lasts_more : (past since : List Event) (mid new : S) → means.log old ≡ Some past → means.log mid ≡ Some (past ++ since) → LeavesOnly means old mid Lasts
      → LeavesOnly means mid new (λ r. Grows (λ events. Survives server first stands (since ++ events) r.files) (means.log mid) (Some r.log)) → LeavesOnly means old new Lasts
  lasts_more past since mid new is stood so_far turn =
      leaves_then means old mid new Lasts so_far
      (leaves_weaker means mid new (λ r. Grows (λ events. Survives server first stands (since ++ events) r.files) (means.log mid) (Some r.log)) Lasts
      (λ r grown. lasts_at past since (means.log mid) r is stood grown) turn)

-- ---- before the first turn

no_slot : (n i : ℕ) (slot : Slot) → get_or (replicate n None) i None ≡ Some slot → ⊥
no_slot zero i slot is = cc is
no_slot (suc n) zero slot is = cc is
no_slot (suc n) (suc i) slot is = no_slot n i slot is

-- before the first event nothing is shown
pub shows_none : {X C : Type 0} (server : Server X C) (first : X) (log : Option (List Event)) → Grows (ShowsFrontsIn server first) log log
shows_none server first log = grows_none (ShowsFrontsIn server first) log (λ channel some. ([], refl))

-- slots that no link has come to follow any log
pub follows_none : {X C : Type 0} (server : Server X C) (log : List Event) (state : X) → Follows server (record { log = log; state = state }) [] (replicate 32 None) state
follows_none server log state = record {
  places = refl;
  apart = λ i j a b is. absurd (no_slot 32 i a is);
  new = λ i slot is. absurd (no_slot 32 i slot is);
  links = λ i slot is. absurd (no_slot 32 i slot is);
  shown = λ channel some. ([], refl);
  state = refl;
}

-- ---- faults

-- by which turn's fault a run stopped
pub by_disk : {T U : Type 0} (fault : TurnFault) → (let e : Result T ServeFault = Err (fault_of_turn fault) in e) ≡ Err faults.DiskFault → (let e : Result U TurnFault = Err fault in e) ≡ Err turn_faults.DiskFault
by_disk turn_faults.DiskFault is = refl
by_disk turn_faults.DoorFault is = cc is

pub by_door : {T U : Type 0} (fault : TurnFault) → (let e : Result T ServeFault = Err (fault_of_turn fault) in e) ≡ Err faults.DoorFault → (let e : Result U TurnFault = Err fault in e) ≡ Err turn_faults.DoorFault
by_door turn_faults.DiskFault is = cc is
by_door turn_faults.DoorFault is = refl

pub of_disk : {T U : Type 0} (fault : TurnFault) → (let e : Result T TurnFault = Err fault in e) ≡ Err turn_faults.DiskFault → (let e : Result U ServeFault = Err (fault_of_turn fault) in e) ≡ Err faults.DiskFault
of_disk turn_faults.DiskFault is = refl
of_disk turn_faults.DoorFault is = cc is

pub has_memory : {T : Type 0} (fault : TurnFault) → (let e : Result T ServeFault = Err (fault_of_turn fault) in e) ≡ Err faults.Memory → ⊥
has_memory turn_faults.DiskFault is = cc is
has_memory turn_faults.DoorFault is = cc is
