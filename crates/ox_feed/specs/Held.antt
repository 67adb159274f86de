-- What a reader of lines keeps, by its parts.
use Rattle.std.specs.Prelude.{◌≡◌, ℕ, ◌+◌, ◌-◌, ◌<◌, ◌≤◌, Bool, true, false, List, [], ◌∷◌, ◌++◌}
use Rattle.std.specs.Prelude.{length, take, drop, All, Option, Some, None, Result, Ok, Err}
use Rattle.std.specs.Prelude.{if◌then◌else◌}
use Rattle.ox_outside.specs.Event.{Event, heard_bytes, has_ended}
use Rattle.ox_feed.specs.declared.lines.Line.{Line}
use Rattle.ox_feed.specs.declared.lines.Line.TheVariants.{Text, Long}
use Rattle.ox_feed.specs.declared.lines.FeedFault.{FeedFault}
use Rattle.ox_feed.specs.declared.held.Held.{Held}
use Rattle.ox_feed.specs.Feed.{Feed, FeedLine, text, too_long, is_line_feed, line_limit, feed_limit}
use Rattle.ox_feed.specs.Feed.{room_size, lines_from, bytes_left, Tells, Hears, OnlyHears}

abbrev pub feed_of : Held → Feed
feed_of held = record { rest = held.begun ++ held.piece; heard = held.heard; ended = held.ended }

-- no line feed stands in these bytes
abbrev pub HasNoFeed : List ℕ → Type 0
HasNoFeed bytes = All (λ b. is_line_feed b ≡ false) bytes

-- the first line feed stands at this place
pub record EndsAt (n : ℕ) (bytes : List ℕ) : Type 0 where
  pub within : n < length bytes
  pub before : HasNoFeed (take n bytes)
  pub cut : bytes ≡ take n bytes ++ 10 ∷ drop (n + 1) bytes

-- the channel has ended
abbrev pub is_end : Result Bool FeedFault → Bool
is_end (Ok true) = false
is_end (Ok false) = true
is_end (Err fault) = false

-- how often a reader may hear: this falls with each hearing
abbrev pub hearings_left : Held → ℕ
hearings_left held = (feed_limit - held.heard) + (if held.ended then 0 else 1)

pub record IsHeld (held : Held) : Type 0 where
  pub no_feed : HasNoFeed held.begun
  pub begun_size : length held.begun ≤ line_limit + 1
  pub piece_size : length held.piece ≤ room_size
  pub count : held.heard ≤ feed_limit

-- the line that a reader gives
abbrev pub line_as : FeedLine → Line
line_as (text bytes) = Text bytes
line_as too_long = Long

-- A whole line was cut off, or there is none and all bytes are looked at: nothing is heard by it.
abbrev pub Cuts : Option Line → Held → Held → Type 0
Cuts (Some line) old new = Tells line (feed_of old) [] (feed_of new)
Cuts None old new =
    (new.piece ≡ [])
    × ((more : List ℕ) (ended : Bool)
    → lines_from (feed_of old) more ended ≡ lines_from (feed_of new) more ended)

-- what a hearing logged is what the piece now has, or that the channel has ended
pub record Fills (result : Result Bool FeedFault) (piece : List ℕ)
    (events : List Event) : Type 0 where
  pub only : OnlyHears events
  pub bytes : heard_bytes 0 events ≡ piece
  pub ended : has_ended 0 events ≡ is_end result

-- nothing was made into lines, and these events were logged
pub record Waits (old new : Feed) (events : List Event) : Type 0 where
  pub hears : Hears old new events
  pub same : (more : List ℕ) (ended : Bool)
      → lines_from old (heard_bytes 0 events ++ more) ended ≡ lines_from new more ended

-- a line takes at least one byte
abbrev pub Shorter : Option Line → Feed → Feed → Type 0
Shorter (Some line) old new = bytes_left new < bytes_left old
Shorter None old new = bytes_left new ≤ bytes_left old
