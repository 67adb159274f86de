-- What is carried from line to line in a run over a feed.
use Rattle.std.specs.Prelude.{◌≡◌, ℕ, List, [], ◌∷◌, ◌++◌, length, Bool}
use Rattle.std.specs.List.{concat}
use Rattle.ox_outside.specs.Event.{Event, heard_bytes, shown_bytes, has_ended}
use Rattle.ox_feed.specs.Feed.{Feed, FeedLine, MayCome, lines_from, lines_of}
use Rattle.ox_model.specs.Replies.{after_on, index_on, replies_on, reply_by}
use Rattle.ox_model.specs.Stack.{Stack, turn_on}
use Rattle.ox_app.specs.Headline.{OnlyOwn}

-- In a run from a stack: the lines that are done lead to this one, all their answers are shown, and these are still to come.
pub record HasAnswered (first : Stack) (lines : Feed) (stack : Stack) (events : List Event) : Type 0 where
  pub only : OnlyOwn events
  pub count : lines.heard ≡ length (heard_bytes 0 events)
  pub ended : lines.ended ≡ has_ended 0 events
  pub done : List FeedLine
  pub cut : (more : List ℕ) (ended : Bool) → MayCome lines more ended → lines_of (heard_bytes 0 events ++ more) ended ≡ done ++ lines_from lines more ended
  pub leads : stack ≡ after_on first done
  pub said : shown_bytes 0 events ≡ concat (replies_on first done)

-- The same, with one line more that is done and whose answer is owed.
pub record OwesAnswer (first : Stack) (answer : List ℕ) (lines : Feed) (stack : Stack) (events : List Event) : Type 0 where
  pub only : OnlyOwn events
  pub count : lines.heard ≡ length (heard_bytes 0 events)
  pub ended : lines.ended ≡ has_ended 0 events
  pub done : List FeedLine
  pub line : FeedLine
  pub cut : (more : List ℕ) (ended : Bool) → MayCome lines more ended → lines_of (heard_bytes 0 events ++ more) ended ≡ done ++ line ∷ lines_from lines more ended
  pub leads : stack ≡ after_on first (done ++ line ∷ [])
  pub says : answer ≡ reply_by index_on (turn_on (after_on first done) line)
  pub said : shown_bytes 0 events ≡ concat (replies_on first done)
