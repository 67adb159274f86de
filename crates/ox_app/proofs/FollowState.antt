-- What is carried from frame to frame in a run of a follower.
use Rattle.std.specs.Prelude.{◌≡◌, ℕ, List, ◌∷◌, ◌++◌, All}
use Rattle.std.specs.List.{concat}
use Rattle.ox_outside.specs.Event.{Event, heard_bytes, shown_bytes}
use Rattle.ox_feed.specs.Feed.{Feed, new_feed}
use Rattle.ox_follow.specs.Frame.{Frame}
use Rattle.ox_follow.specs.Position.{AtMost}
use Rattle.ox_follow.specs.Talk.{Followed}
use Rattle.ox_follow.specs.World.{Stood}
use Rattle.ox_follow.specs.declared.frame.Position.{Position}
use Rattle.ox_model.specs.Stack.{Stack}
use Rattle.ox_pieces.specs.Frames.{Talk, frames_in}
use Rattle.ox_app.specs.OneFrame.{Counts}
use Rattle.ox_app.specs.Talks.{followed_by, have_texts}

-- with these frames before the others
abbrev pub with_frames : List Frame → Talk → Talk
with_frames done later = record { frames = done ++ later.frames; rest = later.rest }

-- with these Haves before the others
abbrev pub with_haves : List Position → Followed Stack → Followed Stack
with_haves haves later = record later { haves = haves ++ later.haves }

-- In a run that began there: the frames that are done lead here, a Have is shown of where it began and of each place to which they led, and the bytes of this reader are still to come.
pub record HasFollowed (first : Stood Stack) (feed : Feed) (now : Stood Stack) (events : List Event) : Type 0 where
  pub counts : Counts new_feed feed events
  pub done : List Frame
  pub haves : List Position
  pub cut : (more : List ℕ) → frames_in (heard_bytes 0 events ++ more) ≡ with_frames done (frames_in (feed.rest ++ more))
  pub leads : (later : List Frame) → followed_by first (done ++ later) ≡ with_haves haves (followed_by now later)
  pub shown : shown_bytes 0 events ≡ concat (have_texts (first.at ∷ haves))
  pub reached : All (λ at. AtMost at now.at) (first.at ∷ haves)
