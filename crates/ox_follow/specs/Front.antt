-- What stands at the front of some bytes: a frame, a fault, or neither yet.
use Rattle.std.specs.Prelude.{◌≡◌, ℕ, ◌+◌, ◌-◌, Bool, false, ◌&&◌, ◌||◌, ◌==◌, not, nat_le}
use Rattle.std.specs.Prelude.{List, [], ◌∷◌, Option, Some, None, Result, Ok, Err, if◌then◌else◌}
use Rattle.std.specs.Int.{w16, w64}
use Rattle.ox_bytes.specs.Reading.{Reader, number_at, run_at, ◌>>=◌}
use Rattle.ox_follow.specs.declared.frame.Frame.{Frame as FrameValue}
use Rattle.ox_follow.specs.declared.frame.Position.{Position}
use Rattle.ox_follow.specs.declared.read.BadFrame.{BadFrame}
use Rattle.ox_follow.specs.Frame.{Frame, Base, Step, Have, Level, plain}

pub data Front : Type 0 where
  -- neither a frame nor a fault stands there yet
  More : Front
  Bad : Front
  -- a frame, and how many bytes it takes
  Whole : (frame : Frame) → (used : ℕ) → Front

-- ---- what may stand there

-- a frame may have this length
abbrev pub is_length : ℕ → Bool
is_length size = nat_le 17 size && nat_le size 4294967315

-- a frame of this kind may have it
abbrev pub is_length_of : ℕ → ℕ → Bool
is_length_of kind size =
    if kind == 1 then nat_le 20 size
    else if kind == 2 then nat_le size 4294967312
    else (kind == 3 || kind == 4) && size == 17

-- the place behind a generation
abbrev pub place_at : Reader ℕ
place_at behind = number_at w64 behind >>= λ generation. number_at w64 generation.1

-- it stands there, and isn't 0
abbrev pub is_bad_place : Result (ℕ × List ℕ) ℕ → Bool
is_bad_place (Err left) = false
is_bad_place (Ok place) = not (place.0 == 0)

abbrev pub has_bad_place : ℕ → List ℕ → Bool
has_bad_place kind behind = kind == 1 && is_bad_place (place_at behind)

-- ---- all that stands behind a kind, field by field

abbrev pub based : Position → ℕ → Result (ℕ × List ℕ) ℕ → Option Frame
based at profile (Err left) = None
based at profile (Ok depth) = Some (Base at profile depth.0 depth.1)

abbrev pub base_at : Position → List ℕ → Option Frame
base_at at [] = None
base_at at (profile ∷ rest) = based at profile (number_at w16 rest)

-- a frame of this kind, by what stands behind its position
abbrev pub frame_behind : ℕ → Position → List ℕ → Option Frame
frame_behind kind at rest =
    if kind == 1 then base_at at rest
    else if kind == 2 then Some (Step at rest)
    else if kind == 3 then Some (Have at)
    else Some (Level at)

abbrev pub placed : ℕ → ℕ → Result (ℕ × List ℕ) ℕ → Option Frame
placed kind generation (Err left) = None
placed kind generation (Ok place) =
    frame_behind kind (record { generation = generation; place = place.0 }) place.1

abbrev pub frame_by : ℕ → Result (ℕ × List ℕ) ℕ → Option Frame
frame_by kind (Err left) = None
frame_by kind (Ok generation) = placed kind generation.0 (number_at w64 generation.1)

-- ---- the front, by its length, its kind and the run behind it

abbrev pub whole_or_bad : ℕ → Option Frame → Front
whole_or_bad used None = Bad
whole_or_bad used (Some frame) = Whole frame used

abbrev pub by_run : ℕ → ℕ → Result (List ℕ × List ℕ) ℕ → Front
by_run size kind (Err left) = More
by_run size kind (Ok run) = whole_or_bad (8 + size) (frame_by kind (number_at w64 run.0))

abbrev pub by_kind : ℕ → ℕ → List ℕ → Front
by_kind size kind behind =
    if not (is_length_of kind size) || has_bad_place kind behind then Bad else
    by_run size kind (run_at (size - 1) behind)

abbrev pub by_size : ℕ → List ℕ → Front
by_size size [] = if not (is_length size) then Bad else More
by_size size (kind ∷ behind) = if not (is_length size) then Bad else by_kind size kind behind

abbrev pub by_length : Result (ℕ × List ℕ) ℕ → Front
by_length (Err left) = More
by_length (Ok size) = by_size size.0 size.1

abbrev pub front_of : List ℕ → Front
front_of bytes = by_length (number_at w64 bytes)

-- what the program reads is what stands there
abbrev pub ReadsFront : Result (Option (FrameValue × ℕ)) BadFrame → Front → Type 0
ReadsFront (Ok None) front = front ≡ More
ReadsFront (Ok (Some found)) front = front ≡ Whole (plain found.0) found.1
ReadsFront (Err bad) front = front ≡ Bad
