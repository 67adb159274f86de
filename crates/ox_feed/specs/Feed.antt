-- A feed: the bytes of channel 0, cut into lines at line feeds.
use Rattle.std.specs.Prelude.{◌≡◌, ℕ, ◌+◌, ◌-◌, ◌*◌, ◌==◌, nat_le, Bool, true, false, ◌||◌, List}
use Rattle.std.specs.Prelude.{[], ◌∷◌, ◌++◌, length, All, IsTrue, Result, IfOk, if◌then◌else◌}
use Rattle.std.specs.List.{slice_split}
use Rattle.ox_bytes.specs.Limits.{block_limit}
use Rattle.ox_outside.specs.Event.{Event, Opened, Heard, Ended, Showed, Broke, GaveUp, Shut}
use Rattle.ox_outside.specs.Event.{heard_bytes, has_ended}
use Rattle.ox_feed.specs.declared.lines.Line.{Line}
use Rattle.ox_feed.specs.declared.lines.Line.TheVariants.{Text, Long, End}
use Rattle.ox_feed.specs.declared.lines.FeedFault.{FeedFault}

-- how many bytes a line may have: `connect` and a blank, and two digits for each byte of a block
abbrev pub line_limit : ℕ
line_limit = 8 + 2 * block_limit

-- how many bytes a feed may have: one that hasn't ended by then is given up
abbrev pub feed_limit : ℕ
feed_limit = 4611686018427387904

-- a line: its bytes without the line feed, or that it has more than 8,000,008
pub data FeedLine : Type 0 where
  text : List ℕ → FeedLine
  too_long : FeedLine

abbrev pub is_line_feed : ℕ → Bool
is_line_feed b = b == 10

-- the line that some bytes between two line feeds are
abbrev pub line_of : List ℕ → FeedLine
line_of bytes = if nat_le (length bytes) line_limit then text bytes else too_long

-- the line that the bytes after the last line feed are: one, where the feed has ended and there are
-- any
abbrev pub last_line : List ℕ → Bool → List FeedLine
last_line [] ended = []
last_line (b ∷ bytes) ended = if ended then line_of (b ∷ bytes) ∷ [] else []

-- the lines of the parts that line feeds leave of a feed
abbrev pub lines_of_parts : List (List ℕ) → Bool → List FeedLine
lines_of_parts [] ended = []
lines_of_parts (last ∷ []) ended = last_line last ended
lines_of_parts (part ∷ next ∷ parts) ended = line_of part ∷ lines_of_parts (next ∷ parts) ended

-- the lines of a feed of which these bytes were heard: each ends with a line feed, but a last line
-- without one counts where the feed has ended
unfoldable pub lines_of : List ℕ → Bool → List FeedLine
lines_of bytes ended = lines_of_parts (slice_split is_line_feed bytes) ended

-- What a reader of lines holds: the bytes that it hasn't made lines of, of a line that is too long
-- as many as show this; how many bytes it has heard; and whether the feed has ended
pub record Feed : Type 0 where
  pub rest : List ℕ
  pub heard : ℕ
  pub ended : Bool

-- a reader that has heard nothing
abbrev pub new_feed : Feed
new_feed = record { rest = []; heard = 0; ended = false }

-- the lines that are still to come, where `more` is heard and the feed then has ended or not
abbrev pub lines_from : Feed → List ℕ → Bool → List FeedLine
lines_from feed more ended = lines_of (feed.rest ++ more) ended

-- at least how many bytes are still to come or to be made into lines, before a feed is given up
abbrev pub bytes_left : Feed → ℕ
bytes_left feed = (feed_limit - feed.heard) + length feed.rest

-- the most bytes that one call hears
abbrev pub room_size : ℕ
room_size = 65536

-- an event of hearing on channel 0: bytes, its end, or that it broke
abbrev pub is_hearing : Event → Bool
is_hearing (Opened channel door) = false
is_hearing (Heard channel bytes) = channel == 0
is_hearing (Ended channel) = channel == 0
is_hearing (Showed channel bytes) = false
is_hearing (Broke channel) = channel == 0
is_hearing (GaveUp channel) = false
is_hearing (Shut channel) = false

-- these events are hearings on channel 0
abbrev pub OnlyHears : List Event → Type 0
OnlyHears events = All (λ event. IsTrue (is_hearing event)) events

-- a call logged these events: hearings on channel 0 alone, all of which the reader has counted
pub record Hears (old new : Feed) (events : List Event) : Type 0 where
  pub only : OnlyHears events
  pub count : new.heard ≡ old.heard + length (heard_bytes 0 events)
  pub ended : new.ended ≡ (old.ended || has_ended 0 events)
  -- once the feed has ended, nothing is heard
  pub quiet : IsTrue old.ended → events ≡ []

-- what a reader with this feed may add to the log at any moment: hearings, and none once the feed
-- has ended
pub record Listens (feed : Feed) (events : List Event) : Type 0 where
  pub only : OnlyHears events
  pub quiet : IsTrue feed.ended → events ≡ []

-- what may still be heard: anything, but nothing where the feed has ended
abbrev pub MayCome : Feed → List ℕ → Bool → Type 0
MayCome feed more ended = IsTrue feed.ended → (more ≡ []) × (ended ≡ true)

-- with these bytes heard, this line comes next, whatever is heard later
abbrev pub GivesLine : FeedLine → Feed → List ℕ → Feed → Type 0
GivesLine line old heard new =
    (more : List ℕ) (ended : Bool) → MayCome new more ended
    → lines_from old (heard ++ more) ended ≡ line ∷ lines_from new more ended

-- with these bytes heard, the feed has ended and no line is left
pub record IsDone (old : Feed) (heard : List ℕ) (new : Feed) : Type 0 where
  pub ended : new.ended ≡ true
  pub none : lines_from old heard true ≡ []

-- what an answer says of the lines still to come before and after it
abbrev pub Tells : Line → Feed → List ℕ → Feed → Type 0
Tells (Text bytes) old heard new = GivesLine (text bytes) old heard new
Tells Long old heard new = GivesLine too_long old heard new
Tells End old heard new = IsDone old heard new

-- what a call for the next line says of the events that it logged
pub record Answers (old : Feed) (result : Result Line FeedFault) (new : Feed)
    (events : List Event) : Type 0 where
  pub hears : Hears old new events
  pub line : IfOk result (λ line. Tells line old (heard_bytes 0 events) new)

-- the answer is a line, and not the end
abbrev pub IsLine : Line → Type 0
IsLine (Text bytes) = Unit {0}
IsLine Long = Unit {0}
IsLine End = ⊥

-- as much was heard as may be, the feed hasn't ended, and no whole line is left
pub record IsTooMuch (feed : Feed) : Type 0 where
  pub heard : feed.heard ≡ feed_limit
  pub more : feed.ended ≡ false
  pub no_line : lines_from feed [] false ≡ []
