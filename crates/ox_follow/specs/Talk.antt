-- What a leader and a follower show of the frames that each hears, and how each ends.
use Rattle.std.specs.Prelude.{Bool, true, false, nat_lt, if◌then◌else◌}
use Rattle.std.specs.Prelude.{List, [], ◌∷◌, Option, Some, None}
use Rattle.ox_follow.specs.declared.frame.Position.{Position}
use Rattle.ox_follow.specs.Position.{is_same, next_place, start_of}
use Rattle.ox_follow.specs.Frame.{Frame, Base, Step, Have, Level}
use Rattle.ox_follow.specs.World.{Leader, Rules, Stood, answer_to, spelled_by}

-- what stands behind the whole frames of some bytes: nothing, a part of one, or a fault
pub data Rest : Type 0 where
  Nothing : Rest
  Part : Rest
  Fault : Rest

pub data End : Type 0 where
  Done : End
  BadFrame : End
  Ahead : End
  EndedEarly : End

-- ---- a follower

pub data Judged (State : Type 0) : Type 0 where
  -- it isn't next
  Stays : Judged State
  Takes : (next : Stood State) → Judged State
  Ends : (end : End) → Judged State

abbrev pub fitting : {State : Type 0} → Position → Option State → Judged State
fitting at None = Ends BadFrame
fitting at (Some state) = Takes (record { at = at; state = state })

abbrev pub judged : {State : Type 0} → Rules State → Stood State → Frame → Judged State
judged rules mine (Step at payload) =
    if is_same at mine.at then fitting (next_place at) (rules.leads payload mine.state) else Stays
judged rules mine (Base at profile depth body) =
    if nat_lt mine.at.generation at.generation
    then fitting (start_of at.generation) (spelled_by rules profile depth body) else Stays
judged rules mine (Have at) = Ends BadFrame
judged rules mine (Level at) = if is_same at mine.at then Ends Done else Stays

-- a frame that a leader sends
abbrev pub IsOwn : Frame → Type 0
IsOwn (Have at) = ⊥
IsOwn frame = Unit {0}

-- where it stands then
abbrev pub stands_by : {State : Type 0} → Stood State → Judged State → Stood State
stands_by mine Stays = mine
stands_by mine (Takes next) = next
stands_by mine (Ends end) = mine

-- where it stands after frames, the Haves that it showed of them, and how they ended it
pub record Followed (State : Type 0) : Type 0 where
  pub haves : List Position
  pub now : Stood State
  pub end : Option End

abbrev pub with_have : {State : Type 0} → Stood State → Followed State → Followed State
with_have mine later = record later { haves = mine.at ∷ later.haves }

unfoldable pub followed : {State : Type 0} → Rules State → Stood State → List Frame
    → Followed State
followed rules mine [] = record { haves = []; now = mine; end = None }
followed rules mine (frame ∷ frames) = elim (judged rules mine frame) [
  | Stays ↦ with_have mine (followed rules mine frames)
  | Takes next ↦ with_have next (followed rules next frames)
  | Ends end ↦ record { haves = []; now = mine; end = Some end }
]

-- ---- a leader

pub record Led : Type 0 where
  pub frames : List Frame
  pub end : Option End

abbrev pub with_frame : Option Frame → Led → Led
with_frame None later = record { frames = []; end = Some Ahead }
with_frame (Some frame) later = record later { frames = frame ∷ later.frames }

unfoldable pub led : {State : Type 0} → Rules State → Leader State → List Frame → Led
led rules leader [] = record { frames = []; end = None }
led rules leader (Have at ∷ haves) =
    with_frame (answer_to rules leader at) (led rules leader haves)
led rules leader (frame ∷ haves) = record { frames = []; end = Some BadFrame }

-- ---- the end of a run: by its frames, else by what stands behind them, once channel 0 has ended

abbrev pub end_by : End → Option End → Rest → Bool → Option End
end_by early (Some end) rest ended = Some end
end_by early None Fault ended = Some BadFrame
end_by early None rest false = None
end_by early None Nothing true = Some early
end_by early None Part true = Some BadFrame
