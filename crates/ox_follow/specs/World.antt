-- A leader and a follower: what each has in its files, what the leader's files have stood for, and
-- the frames that it ever sent. A frame may be lost, come twice, and come late.
use Rattle.std.specs.Prelude.{◌≡◌, ◌⊎◌, ℕ, zero, suc, ◌==◌, ◌&&◌, nat_lt, if◌then◌else◌}
use Rattle.std.specs.Prelude.{List, [], ◌∷◌, ◌++◌, length, Option, Some, None}
use Rattle.ox_follow.specs.declared.frame.Position.{Position}
use Rattle.ox_follow.specs.Position.{is_same, next_place, start_of}
use Rattle.ox_follow.specs.Frame.{Frame, Base, Step, Have, Level}

-- what records and bodies stand for, over any kind of state
pub record Rules (State : Type 0) : Type 0 where
  -- the state after a record's payload, where it is accepted
  pub leads : List ℕ → State → Option State
  -- the state of a body, where it stands for one
  pub spells : List ℕ → Option State
  -- the profile and the depth of both stores
  pub profile : ℕ
  pub depth : ℕ

-- where a store stands, and what its files stand for
pub record Stood (State : Type 0) : Type 0 where
  pub at : Position
  pub state : State

-- a leader's current file, and what it stands for
pub record Leader (State : Type 0) : Type 0 where
  pub generation : ℕ
  pub body : List ℕ
  pub payloads : List (List ℕ)
  pub state : State

abbrev pub stood : {State : Type 0} → Leader State → Stood State
stood leader = record {
  at = record { generation = leader.generation; place = length leader.payloads };
  state = leader.state;
}

-- ---- what a leader hands out

pub data Piece : Type 0 where
  AsFar : Piece
  Ahead : Piece
  Record : (payload : List ℕ) → Piece
  Whole : Piece

-- of one generation: the record at this place
unfoldable pub piece_in : ℕ → List (List ℕ) → Piece
piece_in zero [] = AsFar
piece_in (suc place) [] = Ahead
piece_in zero (payload ∷ later) = Record payload
piece_in (suc place) (payload ∷ later) = piece_in place later

-- what comes behind this position
abbrev pub piece_at : {State : Type 0} → Leader State → Position → Piece
piece_at leader at =
    if at.generation == leader.generation then piece_in at.place leader.payloads
    else if nat_lt leader.generation at.generation then Ahead
    else Whole

abbrev pub frame_of : {State : Type 0} → Rules State → Leader State → Position → Piece
    → Option Frame
frame_of rules leader at AsFar = Some (Level at)
frame_of rules leader at Ahead = None
frame_of rules leader at (Record payload) = Some (Step at payload)
frame_of rules leader at Whole =
    Some (Base (start_of leader.generation) rules.profile rules.depth leader.body)

-- the frame that answers a Have of this position, if it isn't past the leader's
abbrev pub answer_to : {State : Type 0} → Rules State → Leader State → Position → Option Frame
answer_to rules leader at = frame_of rules leader at (piece_at leader at)

-- ---- what a follower takes

-- the state at this position, if there is one
abbrev pub or_stays : {State : Type 0} → Stood State → Position → Option State → Stood State
or_stays mine at None = mine
or_stays mine at (Some state) = record { at = at; state = state }

-- the state of a body whose file is of the same profile and depth
abbrev pub spelled_by : {State : Type 0} → Rules State → ℕ → ℕ → List ℕ → Option State
spelled_by rules profile depth body =
    if profile == rules.profile && depth == rules.depth then rules.spells body else None

-- a step of just its own position, and a base of a greater generation, where they fit
abbrev pub took : {State : Type 0} → Rules State → Stood State → Frame → Stood State
took rules mine (Step at payload) =
    if is_same at mine.at then or_stays mine (next_place at) (rules.leads payload mine.state)
    else mine
took rules mine (Base at profile depth body) =
    if nat_lt mine.at.generation at.generation
    then or_stays mine (start_of at.generation) (spelled_by rules profile depth body)
    else mine
took rules mine (Have at) = mine
took rules mine (Level at) = mine

-- ---- the world

pub record World (State : Type 0) : Type 0 where
  pub leader : Leader State
  -- what the leader's files have stood for, the newest first
  pub history : List (Stood State)
  pub sent : List Frame
  pub follower : Stood State

pub data Event : Type 0 where
  -- the leader commits a command: by a record, or by a whole file of the next generation
  Appends : (payload : List ℕ) → Event
  Turns : (body : List ℕ) → Event
  -- the leader sends what comes behind any position
  Sends : (at : Position) → Event
  -- any frame ever sent comes to the follower, by its number
  Delivers : (number : ℕ) → Event
  -- Leader or follower stops, and opens what its files then stand for: what they stood for before a
  -- commit in which it stopped, or after it.
  Reopens : Event

-- the leader has this now
abbrev pub commits : {State : Type 0} → World State → Leader State → World State
commits world next = record world { leader = next; history = stood next ∷ world.history }

abbrev pub appends : {State : Type 0} → World State → List ℕ → Option State → World State
appends world payload None = world
appends world payload (Some state) = commits world (record world.leader {
  payloads = world.leader.payloads ++ payload ∷ [];
  state = state;
})

abbrev pub turns : {State : Type 0} → World State → List ℕ → Option State → World State
turns world body None = world
turns world body (Some state) = commits world (record {
  generation = suc world.leader.generation;
  body = body;
  payloads = [];
  state = state;
})

abbrev pub sends : {State : Type 0} → World State → Option Frame → World State
sends world None = world
sends world (Some frame) = record world { sent = frame ∷ world.sent }

abbrev pub delivers : {State : Type 0} → Rules State → World State → Option Frame → World State
delivers rules world None = world
delivers rules world (Some frame) = record world { follower = took rules world.follower frame }

unfoldable pub frame_numbered : ℕ → List Frame → Option Frame
frame_numbered number [] = None
frame_numbered zero (frame ∷ frames) = Some frame
frame_numbered (suc number) (frame ∷ frames) = frame_numbered number frames

abbrev pub happened : {State : Type 0} → Rules State → World State → Event → World State
happened rules world (Appends payload) =
    appends world payload (rules.leads payload world.leader.state)
happened rules world (Turns body) = turns world body (rules.spells body)
happened rules world (Sends at) = sends world (answer_to rules world.leader at)
happened rules world (Delivers number) =
    delivers rules world (frame_numbered number world.sent)
happened rules world Reopens = world

unfoldable pub after : {State : Type 0} → Rules State → World State → List Event → World State
after rules world [] = world
after rules world (event ∷ events) = after rules (happened rules world event) events

-- a leader's file without records
abbrev pub made : {State : Type 0} → ℕ → List ℕ → State → Leader State
made generation body state =
    record { generation = generation; body = body; payloads = []; state = state }

-- two stores that stand alike where they begin, and nothing was sent
abbrev pub begun : {State : Type 0} → ℕ → List ℕ → State → World State
begun generation body state = record {
  leader = made generation body state;
  history = stood (made generation body state) ∷ [];
  sent = [];
  follower = stood (made generation body state);
}

-- one of these
abbrev pub IsIn : {A : Type 0} → A → List A → Type 0
IsIn one [] = ⊥
IsIn one (other ∷ others) = (one ≡ other) ⊎ IsIn one others
