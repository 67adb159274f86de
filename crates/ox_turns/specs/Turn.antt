-- What one turn makes.
use Rattle.std.specs.Prelude.{◌≡◌, ◌⊎◌, ℕ, ◌+◌, ◌<◌, ◌≤◌, suc, Bool, true, false, not, IsTrue}
use Rattle.std.specs.Prelude.{if◌then◌else◌, List, [], ◌∷◌, ◌++◌, All, Option, Some, None, length}
use Rattle.std.specs.Prelude.{take, drop, Result, Err, OnOk, OnErr, IsErrOf}
use Rattle.std.specs.Option.{ForSome}
use Rattle.ox_outside.specs.Counts.{Counts, IsFailure, NoFault, Rose, StopsAtFault, greatest}
use Rattle.ox_outside.specs.Event.{Event, Opened, Heard, Ended, Showed, Broke, GaveUp, Shut}
use Rattle.ox_outside.specs.Event.{channel_of}
use Rattle.ox_outside.specs.Event.{has_broken, has_given_up, is_named, is_open, shown_bytes}
use Rattle.ox_outside.specs.Event.{was_opened}
use Rattle.ox_outside.specs.Files.{Files}
use Rattle.ox_outside.specs.Log.{Adds, Grows}
use Rattle.ox_outside.specs.Runs.{Calls, LeavesOnly, OnlyTalks}
use Rattle.ox_outside.specs.Shown.{IsFrontOf}
use Rattle.ox_outside.specs.declared.site.Doorway.{Doorway}
use Rattle.ox_outside.specs.declared.site.Failed.{Failed}
use Rattle.ox_outside.specs.declared.site.Site.{Ghosts as Meanings}
use Rattle.ox_http.specs.declared.Request.{Request}
use Rattle.ox_http.specs.First.{First, first_of, fault, more, whole}
use Rattle.ox_http.specs.Talk.{Message, asks}
use Rattle.ox_http.specs.Written.{fault_reply, written}
use Rattle.ox_session.specs.Link.{Link}
use Rattle.ox_links.specs.Link.{all_shown, answers_to, asked_now, is_operators, is_over}
use Rattle.ox_links.specs.Link.{reply_bytes}
use Rattle.ox_links.specs.Rotation.{Who, door_of, link_of, next_turn, slots_after, slots_in}
use Rattle.ox_links.specs.Rotation.{without_link}
use Rattle.ox_links.specs.Serving.{Server, Serving, after_event, gives_up, serve_on}
use Rattle.ox_links.specs.Serving.{served_by}
use Rattle.ox_links.specs.Survives.{Survives}
use Rattle.ox_links.specs.Turned.{IsCut, IsFirst, IsTurn, is_first}
use Rattle.ox_turns.specs.Desk.{state_behind}
use Rattle.ox_turns.specs.Follows.{Follows, IsAtRest, LinkFollows, ShowsFrontsIn, Start}
use Rattle.ox_turns.specs.Places.{IsSeated, Places}
use Rattle.ox_turns.specs.declared.handler.Desk.{Ghosts as Desk}
use Rattle.ox_turns.specs.declared.link.Came.{Came}
use Rattle.ox_turns.specs.declared.link.Came.TheVariants.{Nothing, Part, More, NoMemory, Over}
use Rattle.ox_turns.specs.declared.link.Next.{Next}
use Rattle.ox_turns.specs.declared.link.Next.TheVariants.{Rests, NoMemory as NoneLeft, Over as Ends}
use Rattle.ox_turns.specs.declared.slot.Slot.{Slot}
use Rattle.ox_turns.specs.declared.turns.TurnFault.{TurnFault}
use Rattle.ox_turns.specs.declared.turns.TurnFault.TheVariants.{DiskFault, DoorFault}

-- ---- the call on a link's channel

abbrev pub HeardMore : ℕ → Link → Link → List Event → Type 0
HeardMore c old new events =
    (old.due ≡ []) × (bytes : List ℕ) × (events ≡ Heard c bytes ∷ [])
    × (new ≡ record old { heard = old.heard ++ bytes })

abbrev pub ShownSome : ℕ → Link → Link → List Event → Type 0
ShownSome c old new events =
    (1 ≤ length old.due) × (n : ℕ) × (events ≡ Showed c (take n old.due) ∷ [])
    × (new ≡ record old { due = drop n old.due })

-- what the call on a channel logs, and makes of the session
abbrev pub Comes : Came → ℕ → Link → Link → List Event → Type 0
Comes Nothing c old new events = (events ≡ []) × (new ≡ old)
Comes Part c old new events = ShownSome c old new events × (1 ≤ length new.due)
Comes More c old new events =
    (HeardMore c old new events ⊎ ShownSome c old new events) × (new.due ≡ [])
Comes NoMemory c old new events =
    (old.due ≡ []) × (bytes : List ℕ) × (events ≡ Heard c bytes ∷ []) × (new ≡ old)
Comes Over c old new events =
    (((old.due ≡ []) × (events ≡ Ended c ∷ [])) ⊎ (events ≡ Broke c ∷ [])) × (new ≡ old)

-- The call logs so much, changes no file, and at each moment of it the log is as before or has
-- that.
pub record ComesTo {S : Type 0} (means : Meanings S) (came : Came) (c : ℕ) (old new : Link)
    (before after : S) : Type 0 where
  pub events : List Event
  pub comes : Comes came c old new events
  pub adds : Adds (λ log. events) (means.log before) (means.log after)
  pub talks : OnlyTalks means (λ added. (added ≡ []) ⊎ (added ≡ events)) before after

-- However the call on a slot's channel ended: the slot keeps its link and its door, a call that
-- brought nothing was counted, and no call failed but on the channel.
pub record SlotComes {S : Type 0} (means : Meanings S) (came : Came) (old new : Slot)
    (before after : S) : Type 0 where
  pub channel : new.channel ≡ old.channel
  pub door : new.door ≡ old.door
  pub idle : came ≡ Nothing → Rose ((means.counts before).not_yets old.channel)
      ((means.counts after).not_yets old.channel)
  pub counted : NoFault (means.counts before) (means.counts after)

-- ---- what a session asks

-- What a session comes to of which nothing is due, and the state of the desk: x before and y after.
abbrev pub Goes : {X C : Type 0} → Server X C → Bool → Next → Link → Link → X → X → Type 0
Goes server operator Rests old new x y =
    (old.closing ≡ false)
    × (((first_of old.heard ≡ more) × (new ≡ old) × (y ≡ x))
    ⊎ (((request : Request) × (n : ℕ) × (first_of old.heard ≡ whole request n)
    × (new ≡ record old {
      heard = drop n old.heard;
      due = (server.reply x operator request).bytes;
      asked = false;
      closing = (server.reply x operator request).close;
    })
    × (y ≡ state_behind server x operator request))
    ⊎ ((status : ℕ) × (first_of old.heard ≡ fault status)
    × (new ≡ record old { due = written (fault_reply status); closing = true }) × (y ≡ x))))
Goes server operator NoneLeft old new x y =
    (old.closing ≡ false) × (new.due ≡ []) × (new.ended ≡ old.ended) × (y ≡ x)
Goes server operator Ends old new x y = (old.closing ≡ true) × (new ≡ old) × (y ≡ x)

-- What a request makes of that, once it is asked and before: it is answered, or there is no memory.
abbrev pub Asks : {X C : Type 0} → Server X C → Bool → Request → Next → Link → Link → X → X → Type 0
Asks server operator request Rests old new x y =
    (new ≡ record old {
      due = (server.reply x operator request).bytes;
      asked = false;
      closing = (server.reply x operator request).close;
    })
    × (y ≡ state_behind server x operator request)
Asks server operator request NoneLeft old new x y = (new ≡ old) × (y ≡ x)
Asks server operator request Ends old new x y = ⊥

-- What it makes of the desk, by what the pending bytes begin with: a request that is answered moves
-- it; one that ran out of memory leaves what is the same.
abbrev pub DeskGoes : {D : Type 0} → (D → Request → Bool → D → Type 0) → (D → D → Type 0) → Bool
    → Next → First → D → D → Type 0
DeskGoes moved same operator Rests (whole request n) old new = moved old request operator new
DeskGoes moved same operator NoneLeft (whole request n) old new = (new ≡ old) ⊎ same old new
DeskGoes moved same operator next first old new = new ≡ old

-- files stand for the state of the desk, or for the one behind a request that is pending
abbrev pub StandsForNext : {X C : Type 0} → Server X C → (Files → X → Type 0) → Bool → Link → X
    → Files → Type 0
StandsForNext server stands operator link x files =
    stands files x
    ⊎ ((request : Request) × (n : ℕ) × (first_of link.heard ≡ whole request n)
    × (link.closing ≡ false) × stands files (state_behind server x operator request))

-- However it ended that a slot answers: it keeps its link and its door, the desk was asked once at
-- most and left the files as it says, and no call failed but one on a file, which ended it.
pub record SlotAnswers {S D T : Type 0} (means : Meanings S) (desk : Desk D S)
    (result : Result T Failed) (old new : Slot) (before after : S) (old_desk new_desk : D)
    : Type 0 where
  pub channel : new.channel ≡ old.channel
  pub door : new.door ≡ old.door
  pub rests : OnOk result (desk.rests new_desk after)
  pub asked : desk.asked new_desk ≤ desk.asked old_desk + 1
  pub failed : OnErr result (Rose (means.counts before).disk (means.counts after).disk)
  pub counted : StopsAtFault (IsFailure result) ⊥ ⊥ (means.counts before) (means.counts after)
  pub calls : Calls means before after

-- ---- the turn of a link

-- it is the turn of this link from this run on, which has logged these events
abbrev pub IsLinkTurn : {X C : Type 0} → Server X C → Serving X C → ℕ → List Event → Type 0
IsLinkTurn server run c [] = Unit {0}
IsLinkTurn server run c (event ∷ rest) =
    let now = run.past ++ event ∷ [] in
    let over = is_over c now (after_event server run event []).answers in
    IsTrue (is_first c (not (all_shown c run.past run.answers)) event)
    × ((rest ≡ (if over then Shut c ∷ [] else []))
    ⊎ ((rest ≡ GaveUp c ∷ []) × (over ≡ false) × IsTrue (all_shown c now run.answers)))

-- of each link's answers a front was shown
abbrev pub ShowsFronts : {X C : Type 0} → Serving X C → Type 0
ShowsFronts run =
    (channel : ℕ) → 1 ≤ channel
    → IsFrontOf (shown_bytes channel run.past) (reply_bytes (answers_to channel run.answers))

-- What a link's turn has made, from a run on: it may be over.
pub record LinkTurn {X C : Type 0} (server : Server X C) (run : Serving X C) (c : ℕ)
    (door : Doorway) (over : Bool) (events : List Event) (new : Link) (now : X) : Type 0 where
  pub made : IsLinkTurn server run c events
  pub own : All (λ event. channel_of event ≡ c) events
  pub follows : over ≡ false → LinkFollows (serve_on server run events) c door new
  pub shuts : (slots : List (Option ℕ))
      → slots_after slots events ≡ (if over then without_link c slots else slots)
  pub fronts : ShowsFronts (serve_on server run events)
  pub state : now ≡ (serve_on server run events).state

-- What a link's turn makes of the desk, by what the link asks at the turn's event and whether it
-- gives up then.
abbrev pub DeskAnswers : {D : Type 0} → (D → Request → Bool → D → Type 0) → (D → D → Type 0) → Bool
    → Bool → Option Message → D → D → Type 0
DeskAnswers moved same operator false (Some (asks request)) old new =
    moved old request operator new
DeskAnswers moved same operator true (Some (asks request)) old new = (new ≡ old) ⊎ same old new
DeskAnswers moved same operator gave_up message old new = new ≡ old

abbrev pub DeskTurns : {D X C : Type 0} → (D → Request → Bool → D → Type 0) → (D → D → Type 0)
    → Server X C → Serving X C → ℕ → List Event → D → D → Type 0
DeskTurns moved same server run c [] old new = new ≡ old
DeskTurns moved same server run c (event ∷ rest) old new =
    DeskAnswers moved same (is_operators c run.past) (gives_up c rest)
    (asked_now server.talk c (run.past ++ event ∷ []) run.answers) old new

-- The same on a site: from a log on, these events were logged, and an idle turn was counted.
pub record LinkTurns {S X C D : Type 0} (means : Meanings S) (server : Server X C)
    (moved : D → Request → Bool → D → Type 0) (same : D → D → Type 0) (run : Serving X C)
    (log : List Event) (c : ℕ) (door : Doorway) (over : Bool) (before after : S) (new : Link)
    (now : X) (old_desk new_desk : D) : Type 0 where
  pub events : List Event
  pub logged : means.log after ≡ Some (log ++ events)
  pub idle : events ≡ []
      → Rose ((means.counts before).not_yets c) ((means.counts after).not_yets c)
  pub turn : LinkTurn server run c door over events new now
  pub desk : DeskTurns moved same server run c events old_desk new_desk

-- a link's turn was cut short behind its first event
pub record LinkCut {X C : Type 0} (server : Server X C) (run : Serving X C) (log : List Event)
    (c : ℕ) (new : Option (List Event)) : Type 0 where
  pub event : Event
  pub logged : new ≡ Some (log ++ event ∷ [])
  pub first : IsTrue (is_first c (not (all_shown c run.past run.answers)) event)
  pub fronts : ShowsFronts (serve_on server run (event ∷ []))

-- a session between two turns
pub record IsReady (link : Link) : Type 0 where
  pub answered : link.asked ≡ false
  pub listens : link.ended ≡ false
  pub at_rest : IsAtRest link

-- a link goes on in this log: it is open, hasn't broken, and gave up only where its last reply says
-- close
pub record IsGoing (c : ℕ) (link : Link) (log : List Event) : Type 0 where
  pub opened : IsTrue (is_open c log)
  pub whole : has_broken c log ≡ false
  pub not_up : link.closing ≡ false → has_given_up c log ≡ false

-- ---- any turn

-- an idle turn was counted
abbrev pub RoseIdle : Who → Counts → Counts → Type 0
RoseIdle (door_of door) old new = Rose (old.door_idles door) (new.door_idles door)
RoseIdle (link_of c) old new = Rose (old.not_yets c) (new.not_yets c)

-- what a turn makes of the desk; a door's leaves it
abbrev pub DeskOf : {D X C : Type 0} → (D → Request → Bool → D → Type 0) → (D → D → Type 0)
    → Server X C → Serving X C → Who → List Event → D → D → Type 0
DeskOf moved same server run (door_of door) events old new = new ≡ old
DeskOf moved same server run (link_of c) events old new =
    DeskTurns moved same server run c events old new

-- From a start, a turn of this one was made: it has logged these events, and slots and state follow
-- them.
pub record TurnOf {S X C D : Type 0} (means : Meanings S) (server : Server X C)
    (moved : D → Request → Bool → D → Type 0) (same : D → D → Type 0) (start : Start X)
    (since : List Event) (who : Who) (slots : List (Option Slot)) (before after : S) (now : X)
    (old_desk new_desk : D) : Type 0 where
  pub events : List Event
  pub made : IsTurn server start.state since who events
  pub logged : means.log after ≡ Some ((start.log ++ since) ++ events)
  pub idle : events ≡ [] → RoseIdle who (means.counts before) (means.counts after)
  pub follows : Follows server start (since ++ events) slots now
  pub desk : DeskOf moved same server (served_by server start.state since) who events old_desk
      new_desk

-- A door's turn: nobody waited, or a link came and took the lowest free slot.
abbrev pub DoorComes : {S : Type 0} → Meanings S → Doorway → List (Option Slot) → List (Option Slot)
    → S → S → Type 0
DoorComes means door old new before after =
    ((new ≡ old) × (means.log after ≡ means.log before)
    × Rose ((means.counts before).door_idles door) ((means.counts after).door_idles door))
    ⊎ ((c : ℕ) × (1 ≤ c) × IsSeated c door old new
    × ForSome (means.log before) (λ log. (is_named c log ≡ false) × (was_opened c log ≡ false))
    × Adds (λ log. Opened c door ∷ []) (means.log before) (means.log after))

-- It was the turn of the one whose turn it is.
pub record OneTurn {S X C D : Type 0} (means : Meanings S) (server : Server X C)
    (moved : D → Request → Bool → D → Type 0) (same : D → D → Type 0) (start : Start X)
    (since : List Event) (old new : Places) (before after : S) (now : X) (old_desk new_desk : D)
    : Type 0 where
  pub at : ℕ
  pub who : Who
  pub whose : next_turn old.place (slots_in since) ≡ Some (at, who)
  pub on : new.place ≡ suc at
  pub turn : TurnOf means server moved same start since who new.slots before after now old_desk
      new_desk

-- The turn of this one was cut short: nothing was logged, or its first event. Of each link's
-- answers a front is shown then.
pub record CutOf {X C : Type 0} (server : Server X C) (start : Start X) (since : List Event)
    (who : Who) (new : Option (List Event)) : Type 0 where
  pub events : List Event
  pub logged : new ≡ Some ((start.log ++ since) ++ events)
  pub first : (events ≡ [])
      ⊎ ((event : Event) × (events ≡ event ∷ []) × IsFirst server start.state since who event)
  pub fronts : ShowsFrontsIn server start.state (since ++ events)

-- A turn was cut short: nothing was logged, or its first event. Of each link's answers a front is
-- shown then.
pub record TurnCut {X C : Type 0} (server : Server X C) (start : Start X) (since : List Event)
    (place : ℕ) (new : Option (List Event)) : Type 0 where
  pub events : List Event
  pub logged : new ≡ Some ((start.log ++ since) ++ events)
  pub cut : IsCut server start.state since place events
  pub fronts : ShowsFrontsIn server start.state (since ++ events)

-- so it is for each start from which slots and state follow this log
abbrev pub FromEach : {X C : Type 0} → Server X C → List (Option Slot) → X → Option (List Event)
    → (Start X → List Event → Type 0) → Type 0
FromEach {X = X} server slots now log IsSo =
    (start : Start X) (since : List Event) → log ≡ Some (start.log ++ since)
    → Follows server start since slots now → IsSo start since

-- there is a start from which slots and state follow this log
abbrev pub FollowsSome : {X C : Type 0} → Server X C → List (Option Slot) → X → List Event → Type 0
FollowsSome {X = X} server slots now log =
    (start : Start X) × (since : List Event) × (log ≡ start.log ++ since)
    × Follows server start since slots now

-- A turn may begin: the files are as the desk left them, it may be asked once more, and there is a
-- start from which slots and desk follow the log.
pub record MayTurn {S D : Type 0} (means : Meanings S) (desk : Desk D S)
    (slots : List (Option Slot)) (before : S) (old : D) : Type 0 where
  pub rests : desk.rests old before
  pub asked : desk.asked old < greatest
  pub follows : ForSome (means.log before) (FollowsSome desk.server slots (desk.state old))

-- What a turn promises, whosever it is and however it ended: of slots before it, of a site and of
-- a desk.
pub record TurnPromises {S D T : Type 0} (means : Meanings S) (desk : Desk D S)
    (result : Result T TurnFault) (slots : List (Option Slot)) (before after : S) (old new : D)
    : Type 0 where
  -- at each moment a crash leaves files and a log that survive, from each start that they follow
  pub survives : FromEach desk.server slots (desk.state old) (means.log before) (λ start since.
      IsTrue (means.told before) → LeavesOnly means before after (λ r. Grows (λ events.
      Survives desk.server start.state desk.stands (since ++ events) r.files)
      (means.log before) (Some r.log)))
  pub untold : means.log before ≡ None → means.log after ≡ None
  pub rests : OnOk result (desk.rests new after)
  pub asked : desk.asked new ≤ desk.asked old + 1
  pub disk_fault : IsErrOf result DiskFault
      → Rose (means.counts before).disk (means.counts after).disk
  pub door_fault : IsErrOf result DoorFault
      → Rose (means.counts before).door (means.counts after).door
  pub door_logs : IsErrOf result DoorFault → means.log after ≡ means.log before
  pub counted : StopsAtFault (result ≡ Err DiskFault) ⊥ ⊥ (means.counts before)
      (means.counts after)
  pub calls : Calls means before after
