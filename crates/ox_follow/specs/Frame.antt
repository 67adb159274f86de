-- What goes between a leader and a follower, as plain data and as bytes.
use Rattle.std.specs.Prelude.{◌≡◌, ℕ, ◌<◌, ◌^◌, List, ◌∷◌, ◌++◌, length}
use Rattle.std.specs.Int.{w16, w64, to_le_bytes}
use Rattle.ox_follow.specs.declared.frame.Frame.{Frame as FrameValue}
use Rattle.ox_follow.specs.declared.frame.Frame.TheVariants as values
use Rattle.ox_follow.specs.declared.frame.Position.{Position}
use Rattle.ox_follow.specs.Position.{FitsPosition}

pub data Frame : Type 0 where
  Base : (at : Position) → (profile depth : ℕ) → (body : List ℕ) → Frame
  Step : (at : Position) → (payload : List ℕ) → Frame
  Have : (at : Position) → Frame
  Level : (at : Position) → Frame

-- a frame of the program
abbrev pub plain : FrameValue → Frame
plain (values.Base at profile depth body) = Base at profile depth body.now
plain (values.Step at payload) = Step at payload.now
plain (values.Have at) = Have at
plain (values.Level at) = Level at

-- ---- spelled: how many bytes follow, the kind, the position, and the rest

abbrev pub position_bytes : Position → List ℕ
position_bytes at = to_le_bytes w64 at.generation ++ to_le_bytes w64 at.place

abbrev pub with_length : List ℕ → List ℕ
with_length bytes = to_le_bytes w64 (length bytes) ++ bytes

abbrev pub inside : Frame → List ℕ
inside (Base at profile depth body) =
    1 ∷ position_bytes at ++ profile ∷ to_le_bytes w16 depth ++ body
inside (Step at payload) = 2 ∷ position_bytes at ++ payload
inside (Have at) = 3 ∷ position_bytes at
inside (Level at) = 4 ∷ position_bytes at

abbrev pub spelled : Frame → List ℕ
spelled frame = with_length (inside frame)

-- Its numbers fit, a base stands where its generation begins, and a body or a payload is shorter
-- than 4 GiB.
abbrev pub FitsFrame : Frame → Type 0
FitsFrame (Base at profile depth body) =
    FitsPosition at × (at.place ≡ 0) × (depth < 2 ^ 16) × (length body < 2 ^ 32)
FitsFrame (Step at payload) = FitsPosition at × (length payload < 2 ^ 32)
FitsFrame (Have at) = FitsPosition at
FitsFrame (Level at) = FitsPosition at
