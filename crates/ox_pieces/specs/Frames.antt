-- The frames that stand in some bytes, one behind the other, and how a reader hears them.
use Rattle.std.specs.Prelude.{◌≡◌, ◌⊎◌, ◌||◌, not, ℕ, zero, suc, ◌+◌, ◌-◌, ◌<◌, Bool, true, false}
use Rattle.std.specs.Prelude.{IsTrue, if◌then◌else◌}
use Rattle.std.specs.Prelude.{List, [], ◌∷◌, ◌++◌, length, drop}
use Rattle.std.specs.Prelude.{Option, Some, None, Result, Ok, Err}
use Rattle.ox_outside.specs.Event.{Event, has_ended, heard_bytes}
use Rattle.ox_feed.specs.Feed.{Feed, Hears, OnlyHears, feed_limit}
use Rattle.ox_feed.specs.declared.lines.FeedFault.{FeedFault}
use Rattle.ox_follow.specs.Frame.{Frame, plain}
use Rattle.ox_follow.specs.Front.{Front, More, Bad, Whole, front_of}
use Rattle.ox_follow.specs.Talk.{Rest, Nothing, Part, Fault}
use Rattle.ox_follow.specs.declared.frame.Frame.{Frame as FrameValue}
use Rattle.ox_follow.specs.declared.read.BadFrame.{BadFrame}

-- the whole frames, in order, and what stands behind them
pub record Talk : Type 0 where
  pub frames : List Frame
  pub rest : Rest

abbrev pub with_first : Frame → Talk → Talk
with_first frame later = record { frames = frame ∷ later.frames; rest = later.rest }

abbrev pub only_rest : Rest → Talk
only_rest rest = record { frames = []; rest = rest }

-- bytes that are the front of a frame
abbrev pub part_of : List ℕ → Rest
part_of [] = Nothing
part_of (b ∷ bytes) = Part

-- by what stands at the front of these bytes
abbrev pub by_front : Front → List ℕ → (List ℕ → Talk) → Talk
by_front More bytes next = only_rest (part_of bytes)
by_front Bad bytes next = only_rest Fault
by_front (Whole frame used) bytes next = with_first frame (next (drop used bytes))

-- at most so many frames
unfoldable pub frames_within : ℕ → List ℕ → Talk
frames_within zero bytes = only_rest (part_of bytes)
frames_within (suc most) bytes = by_front (front_of bytes) bytes (frames_within most)

-- Each frame takes a byte or more.
abbrev pub frames_in : List ℕ → Talk
frames_in bytes = frames_within (length bytes) bytes

-- ---- a reader, which has a rest of the bytes that it heard

-- the bytes behind the frame in front, where a whole one stands there
abbrev pub behind_front : Front → List ℕ → List ℕ
behind_front More bytes = bytes
behind_front Bad bytes = bytes
behind_front (Whole frame used) bytes = drop used bytes

abbrev pub behind_first : List ℕ → List ℕ
behind_first bytes = behind_front (front_of bytes) bytes

-- A call logged these events: hearings, whose bytes now stand behind the rest.
pub record Advances (old new : Feed) (events : List Event) : Type 0 where
  pub hears : Hears old new events
  pub rest : new.rest ≡ old.rest ++ heard_bytes 0 events

-- the greatest length of a frame
abbrev pub longest_frame : ℕ
longest_frame = 4294967323

-- as much was heard as may be, the channel hasn't ended, and neither a frame nor a fault stands in
-- front
pub record IsTooMuch (feed : Feed) : Type 0 where
  pub heard : feed.heard ≡ feed_limit
  pub more : feed.ended ≡ false
  pub front : front_of feed.rest ≡ More

abbrev pub is_more : Front → Bool
is_more More = true
is_more Bad = false
is_more (Whole frame used) = false

-- A whole frame, a fault or the end of the channel stands in front.
abbrev pub is_ready : Feed → Bool
is_ready feed = feed.ended || not (is_more (front_of feed.rest))

-- This frame comes first, whatever is heard later, and it takes bytes.
pub record GivesFrame (frame : Frame) (bytes : List ℕ) : Type 0 where
  pub first : (more : List ℕ)
      → frames_in (bytes ++ more) ≡ with_first frame (frames_in (behind_first bytes ++ more))
  pub shorter : length (behind_first bytes) < length bytes

-- No whole frame stands in front, and where the channel has ended, nothing does.
pub record HasNoFrame (feed : Feed) : Type 0 where
  pub front : front_of feed.rest ≡ More
  pub ended : IsTrue feed.ended → feed.rest ≡ []

-- No frame comes: a fault stands in front, whatever is heard later; or a part of a frame does, and
-- the channel has ended.
abbrev pub HasBadFrame : Feed → Type 0
HasBadFrame feed =
    ((more : List ℕ) → frames_in (feed.rest ++ more) ≡ only_rest Fault)
    ⊎ (IsTrue feed.ended × (frames_in feed.rest ≡ only_rest Part))

-- what a reader lends
abbrev pub Lends : Result (Option FrameValue) BadFrame → Feed → Type 0
Lends (Ok (Some frame)) feed = GivesFrame (plain frame) feed.rest
Lends (Ok None) feed = HasNoFrame feed
Lends (Err bad) feed = HasBadFrame feed

-- ---- one hearing

-- how often a reader may hear: this falls with each hearing
abbrev pub hearings_left : Feed → ℕ
hearings_left feed = (feed_limit - feed.heard) + (if feed.ended then 0 else 1)

abbrev pub is_end : Result (Option ℕ) FeedFault → Bool
is_end (Ok None) = true
is_end (Ok (Some n)) = false
is_end (Err fault) = false

-- how many bytes it heard
abbrev pub heard_count : Result (Option ℕ) FeedFault → ℕ
heard_count (Ok None) = 0
heard_count (Ok (Some n)) = n
heard_count (Err fault) = 0

-- What a hearing logged stands behind the bytes that were there, or says that the channel has
-- ended.
pub record HearsBehind (result : Result (Option ℕ) FeedFault) (old new : List ℕ)
    (events : List Event) : Type 0 where
  pub only : OnlyHears events
  pub bytes : new ≡ old ++ heard_bytes 0 events
  pub ended : has_ended 0 events ≡ is_end result
