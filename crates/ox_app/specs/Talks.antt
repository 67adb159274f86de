-- Runs that hear frames and show frames: `lead` and `follow`. What each shows of the frames that it
-- hears and how these end it stands in ox_follow; the rules of a store's records and bodies and the
-- place where its files stand, in ox_pieces.
use Rattle.std.specs.Prelude.{◌≡◌, ℕ, ◌≤◌, Bool, true, false, IsTrue}
use Rattle.std.specs.Prelude.{List, ◌∷◌, length, map, Option, Some, Err}
use Rattle.std.specs.List.{concat}
use Rattle.ox_outside.specs.Event.{Event, heard_bytes, shown_bytes, has_ended}
use Rattle.ox_outside.specs.Log.{Grows}
use Rattle.ox_outside.specs.Shown.{IsFrontOf}
use Rattle.ox_outside.specs.declared.site.Site.{Ghosts as Meanings}
use Rattle.ox_feed.specs.Feed.{feed_limit}
use Rattle.ox_files.specs.Stands.{Misfit}
use Rattle.ox_follow.specs.Frame.{Frame, Have, spelled}
use Rattle.ox_follow.specs.Talk.{End, Done, EndedEarly, Led, Followed, led, followed, end_by}
use Rattle.ox_follow.specs.World.{Leader, Stood}
use Rattle.ox_follow.specs.declared.frame.Position.{Position}
use Rattle.ox_model.specs.Stack.{Stack}
use Rattle.ox_pieces.specs.Frames.{frames_in}
use Rattle.ox_pieces.specs.Stood.{leader_in, led_stands, rules_of, stood_in}
use Rattle.ox_app.specs.Headline.{OnlyOwn}
use Rattle.ox_app.specs.Status.{IsTalkDone, end_status}
use Rattle.ox_app.specs.declared.status.Status.{Status}
use Rattle.ox_app.specs.declared.status.Status.TheVariants.{TooMuch}

-- ---- what a run begins with

-- the site tells its files, and they are those of this leader
pub record StandsAsLeader {S : Type 0} (means : Meanings S) (site : S) (leader : Leader Stack)
    : Type 0 where
  pub told : IsTrue (means.told site)
  pub leads : leader_in (means.seen site) ≡ Some leader

-- the site tells its files, and they stand there
pub record StandsThere {S : Type 0} (means : Meanings S) (site : S) (mine : Stood Stack)
    : Type 0 where
  pub told : IsTrue (means.told site)
  pub stands : stood_in (means.seen site) ≡ Some mine

-- the site tells its files, and they are no store, or have version 3: this test is the first that
-- fails
pub record StandsNowhere {S : Type 0} (means : Meanings S) (site : S) (misfit : Misfit)
    : Type 0 where
  pub told : IsTrue (means.told site)
  pub fails : led_stands (means.seen site) ≡ Err misfit

-- ---- what is shown, and how a run ends

-- One party to a talk, by all bytes that it heard: what it shows of them, and how they end its run
-- where channel 0 has ended or not.
pub record Party : Type 0 where
  pub text : List ℕ → List ℕ
  pub end : List ℕ → Bool → Option End

-- what a leader makes of frames
abbrev pub led_by : Leader Stack → List Frame → Led
led_by leader frames = led (rules_of leader.state) leader frames

-- it answers each Have by a frame
abbrev pub leader_party : Leader Stack → Party
leader_party leader = record {
  text = λ heard. concat (map spelled (led_by leader (frames_in heard).frames).frames);
  end = λ heard ended.
      end_by Done (led_by leader (frames_in heard).frames).end (frames_in heard).rest ended;
}

-- what a follower that stands there makes of frames
abbrev pub followed_by : Stood Stack → List Frame → Followed Stack
followed_by mine frames = followed (rules_of mine.state) mine frames

-- where it stands when it begins, and behind each frame that doesn't end it
abbrev pub haves_of : Stood Stack → List Frame → List Position
haves_of mine frames = mine.at ∷ (followed_by mine frames).haves

abbrev pub have_texts : List Position → List (List ℕ)
have_texts haves = map (λ at. spelled (Have at)) haves

-- it shows a Have of each of these places
abbrev pub follower_party : Stood Stack → Party
follower_party mine = record {
  text = λ heard. concat (have_texts (haves_of mine (frames_in heard).frames));
  end = λ heard ended.
      end_by EndedEarly (followed_by mine (frames_in heard).frames).end (frames_in heard).rest
      ended;
}

-- what a party showed begins what it shows of the bytes that it heard, and the status says how the
-- run ended
pub record RunsTalk (party : Party) (status : Status) (events : List Event) : Type 0 where
  pub only : OnlyOwn events
  pub shown : IsFrontOf (shown_bytes 0 events) (party.text (heard_bytes 0 events))
  -- where frames ended the run, or the end of channel 0 did, all of it was shown
  pub whole : (end : End) → status ≡ end_status end
      → (shown_bytes 0 events ≡ party.text (heard_bytes 0 events))
      × (party.end (heard_bytes 0 events) (has_ended 0 events) ≡ Some end)
  -- no more is heard than a feed may have, and a run is given up for it exactly there
  pub within : length (heard_bytes 0 events) ≤ feed_limit
  pub too_much : status ≡ TooMuch
      → (length (heard_bytes 0 events) ≡ feed_limit) × (has_ended 0 events ≡ false)

-- a run is this party's
abbrev pub Talks : {S : Type 0} → Meanings S → Party → Status → S → S → Type 0
Talks means party status old new = Grows (RunsTalk party status) (means.log old) (means.log new)

-- frames or the end of channel 0 ended the run, or memory ran out, where the channel ends before it
-- is given up
abbrev pub EndsTalk : Status → List Event → Type 0
EndsTalk status events =
    (length (heard_bytes 0 events) ≡ feed_limit → has_ended 0 events ≡ true) → IsTalkDone status
