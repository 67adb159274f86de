-- What a leader and a follower show of one frame, or of none.
use Rattle.std.proofs.Common.{◌≡◌, ◌∙◌, inl, inr, ℕ, Bool, List, [], ◌∷◌, ◌++◌, map, Option, Some, None, refl, sym, ap}
use Rattle.std.specs.Prelude.{IsTrue}
use Rattle.std.specs.List.{concat}
use Rattle.std.proofs.lemmas.List.{append-nil}
use Rattle.ox_feed.specs.Feed.{Feed}
use Rattle.ox_follow.specs.Frame.{Frame, Base, Step, Have, Level, spelled}
use Rattle.ox_follow.specs.Talk.{End, EndedEarly, Done, Followed, Judged, Stays, Takes, Ends, Led, Rest, Nothing, Part, Fault, end_by, followed, judged, led, with_frame}
use Rattle.ox_follow.specs.Talk as talks
use Rattle.ox_follow.specs.World.{Leader, Rules, Stood, answer_to}
use Rattle.ox_follow.specs.declared.frame.Position.{Position}
use Rattle.ox_model.specs.Stack.{Stack}
use Rattle.ox_pieces.specs.Frames.{GivesFrame, HasBadFrame, Talk, behind_first, frames_in, frames_within, only_rest, with_first}
use Rattle.ox_pieces.specs.Stood.{rules_of}
use Rattle.ox_app.specs.OneFrame.{EndsThere, LeavesAt, ShowsFirst, judged_by, shown_follower}
use Rattle.ox_app.specs.Status.{end_status}
use Rattle.ox_app.specs.Talks.{Party, followed_by, follower_party, have_texts, leader_party, led_by}
use Rattle.ox_app.specs.declared.status.Status.{Status}

-- nothing stands in no bytes
none_there : frames_in [] ≡ only_rest Nothing
unfolding frames_within
none_there = refl

-- frames in front, where no more is heard
first_there : (frame : Frame) (bytes : List ℕ) → GivesFrame frame bytes → frames_in bytes ≡ with_first frame (frames_in (behind_first bytes ++ []))
first_there frame bytes gives = ap frames_in (sym (append-nil bytes)) ∙ gives.first []

-- a party that is moved by frames: what it shows of them, how they end it, and how the channel does
pub record Moved (party : Party) (text : List Frame → List ℕ) (end : List Frame → Option End) (early : End) : Type 0 where
  pub says : (bytes : List ℕ) → party.text bytes ≡ text (frames_in bytes).frames
  pub ends : (bytes : List ℕ) (over : Bool) → party.end bytes over ≡ end_by early (end (frames_in bytes).frames) (frames_in bytes).rest over
  pub text_none : text [] ≡ []
  pub end_none : end [] ≡ None

-- ---- what such a party shows

module _ (party : Party) (text : List Frame → List ℕ) (end : List Frame → Option End) (early : End) (moved : Moved party text end early) (feed : Feed) (status : Status) where
  there : (talk : Talk) (last : End) → frames_in feed.rest ≡ talk → text talk.frames ≡ [] → end_by early (end talk.frames) talk.rest feed.ended ≡ Some last → status ≡ end_status last → EndsThere party feed status
  there talk last is none by as' = record {
    end = last;
    ends_as = as';
    nothing = moved.says feed.rest ∙ ap (λ (t : Talk). text t.frames) is ∙ none;
    by = moved.ends feed.rest feed.ended ∙ ap (λ (t : Talk). end_by early (end t.frames) t.rest feed.ended) is ∙ by;
  }

  -- no frame begins so
  pub bad_there : HasBadFrame feed → status ≡ end_status talks.BadFrame → EndsThere party feed status
  bad_there (inl fault) is =
      there (only_rest Fault) talks.BadFrame (ap frames_in (sym (append-nil feed.rest)) ∙ fault []) moved.text_none
      (ap (λ (o : Option End). end_by early o Fault feed.ended) moved.end_none) is
  bad_there (inr cut) is =
      there (only_rest Part) talks.BadFrame cut.1 moved.text_none
      (ap (λ (o : Option End). end_by early o Part feed.ended) moved.end_none ∙ ap (λ (o : Bool). end_by early None Part o) cut.0) is

  -- the channel has ended
  pub over_there : IsTrue feed.ended → feed.rest ≡ [] → status ≡ end_status early → EndsThere party feed status
  over_there ended none is =
      there (only_rest Nothing) early (ap frames_in none ∙ none_there) moved.text_none
      (ap (λ (o : Option End). end_by early o Nothing feed.ended) moved.end_none ∙ ap (λ (o : Bool). end_by early None Nothing o) ended) is

  -- a frame ends it
  pub frame_there : (frame : Frame) (last : End) → GivesFrame frame feed.rest → ((later : List Frame) → text (frame ∷ later) ≡ []) → ((later : List Frame) → end (frame ∷ later) ≡ Some last) → status ≡ end_status last
      → EndsThere party feed status
  frame_there frame last gives none by is =
      let later = frames_in (behind_first feed.rest ++ []) in
      there (with_first frame later) last (first_there frame feed.rest gives) (none later.frames)
      (ap (λ (o : Option End). end_by early o later.rest feed.ended) (by later.frames)) is

-- a frame is answered
shows_frame : (party next : Party) (text later_text : List Frame → List ℕ) (end later_end : List Frame → Option End) (early : End) → Moved party text end early → Moved next later_text later_end early
    → (frame : Frame) (bytes said : List ℕ) → GivesFrame frame bytes → ((later : List Frame) → text (frame ∷ later) ≡ said ++ later_text later) → ((later : List Frame) → end (frame ∷ later) ≡ later_end later)
    → ShowsFirst party bytes said next (behind_first bytes)
shows_frame party next text later_text end later_end early moved moved' frame bytes said gives says goes = record {
  text = λ more.
      let later = frames_in (behind_first bytes ++ more) in
      moved.says (bytes ++ more) ∙ ap (λ (t : Talk). text t.frames) (gives.first more) ∙ says later.frames
      ∙ ap (λ (l : List ℕ). said ++ l) (sym (moved'.says (behind_first bytes ++ more)));
  end = λ more over.
      let later = frames_in (behind_first bytes ++ more) in
      moved.ends (bytes ++ more) over ∙ ap (λ (t : Talk). end_by early (end t.frames) t.rest over) (gives.first more)
      ∙ ap (λ (o : Option End). end_by early o later.rest over) (goes later.frames) ∙ sym (moved'.ends (behind_first bytes ++ more) over);
}

-- ---- a leader

abbrev led_text : Leader Stack → List Frame → List ℕ
led_text leader frames = concat (map spelled (led_by leader frames).frames)

abbrev led_end : Leader Stack → List Frame → Option End
led_end leader frames = (led_by leader frames).end

module _ (leader : Leader Stack) where
  led_moved : Moved (leader_party leader) (led_text leader) (led_end leader) Done
  unfolding led
  led_moved = record { says = λ bytes. refl; ends = λ bytes over. refl; text_none = refl; end_none = refl }

  answered_text : (answer : Frame) (later : Led) → concat (map spelled (with_frame (Some answer) later).frames) ≡ spelled answer ++ concat (map spelled later.frames)
  answered_text answer later = refl

  -- a Have that is answered
  pub leads_on : (at : Position) (bytes : List ℕ) (answer : Frame) → GivesFrame (Have at) bytes → answer_to (rules_of leader.state) leader at ≡ Some answer
      → ShowsFirst (leader_party leader) bytes (spelled answer) (leader_party leader) (behind_first bytes)
  unfolding led
  leads_on at bytes answer gives is =
      shows_frame (leader_party leader) (leader_party leader) (led_text leader) (led_text leader) (led_end leader) (led_end leader) Done led_moved led_moved (Have at) bytes (spelled answer) gives
      (λ later. ap (λ (o : Option Frame). concat (map spelled (with_frame o (led_by leader later)).frames)) is)
      (λ later. ap (λ (o : Option Frame). (with_frame o (led_by leader later)).end) is)

  -- one that is past the leader
  pub leads_past : (feed : Feed) (status : Status) (at : Position) → GivesFrame (Have at) feed.rest → answer_to (rules_of leader.state) leader at ≡ None → status ≡ end_status talks.Ahead
      → EndsThere (leader_party leader) feed status
  unfolding led
  leads_past feed status at gives is =
      frame_there (leader_party leader) (led_text leader) (led_end leader) Done led_moved feed status (Have at) talks.Ahead gives
      (λ later. ap (λ (o : Option Frame). concat (map spelled (with_frame o (led_by leader later)).frames)) is)
      (λ later. ap (λ (o : Option Frame). (with_frame o (led_by leader later)).end) is)

  -- a frame that is no Have
  pub leads_none : (feed : Feed) (status : Status) (frame : Frame) → GivesFrame frame feed.rest → ((at : Position) → frame ≡ Have at → ⊥) → status ≡ end_status talks.BadFrame
      → EndsThere (leader_party leader) feed status
  unfolding led
  leads_none feed status (Have at) gives other is = absurd (other at refl)
  leads_none feed status (Base at profile depth body) gives other is =
      frame_there (leader_party leader) (led_text leader) (led_end leader) Done led_moved feed status (Base at profile depth body) talks.BadFrame gives (λ later. refl) (λ later. refl) is
  leads_none feed status (Step at payload) gives other is =
      frame_there (leader_party leader) (led_text leader) (led_end leader) Done led_moved feed status (Step at payload) talks.BadFrame gives (λ later. refl) (λ later. refl) is
  leads_none feed status (Level at) gives other is =
      frame_there (leader_party leader) (led_text leader) (led_end leader) Done led_moved feed status (Level at) talks.BadFrame gives (λ later. refl) (λ later. refl) is

  pub leads_bad : (feed : Feed) (status : Status) → HasBadFrame feed → status ≡ end_status talks.BadFrame → EndsThere (leader_party leader) feed status
  leads_bad = bad_there (leader_party leader) (led_text leader) (led_end leader) Done led_moved

  pub leads_over : (feed : Feed) (status : Status) → IsTrue feed.ended → feed.rest ≡ [] → status ≡ end_status Done → EndsThere (leader_party leader) feed status
  leads_over = over_there (leader_party leader) (led_text leader) (led_end leader) Done led_moved

-- ---- a follower

abbrev followed_text : Stood Stack → List Frame → List ℕ
followed_text mine frames = concat (have_texts (followed_by mine frames).haves)

abbrev followed_end : Stood Stack → List Frame → Option End
followed_end mine frames = (followed_by mine frames).end

-- what a frame makes of a follower that is judged so, before further ones
abbrev pub followed_how : Rules Stack → Stood Stack → List Frame → Judged Stack → Followed Stack
followed_how rules mine later Stays = talks.with_have mine (followed rules mine later)
followed_how rules mine later (Takes next) = talks.with_have next (followed rules next later)
followed_how rules mine later (Ends end) = record { haves = []; now = mine; end = Some end }

followed_moved : (mine : Stood Stack) → Moved (shown_follower mine) (followed_text mine) (followed_end mine) EndedEarly
unfolding followed
followed_moved mine = record { says = λ bytes. refl; ends = λ bytes over. refl; text_none = refl; end_none = refl }

module _ (mine : Stood Stack) where
  pub follows_bad : (feed : Feed) (status : Status) → HasBadFrame feed → status ≡ end_status talks.BadFrame → EndsThere (shown_follower mine) feed status
  follows_bad = bad_there (shown_follower mine) (followed_text mine) (followed_end mine) EndedEarly (followed_moved mine)

  pub follows_over : (feed : Feed) (status : Status) → IsTrue feed.ended → feed.rest ≡ [] → status ≡ end_status EndedEarly → EndsThere (shown_follower mine) feed status
  follows_over = over_there (shown_follower mine) (followed_text mine) (followed_end mine) EndedEarly (followed_moved mine)

  followed_as : (frame : Frame) (later : List Frame) (how : Judged Stack) → judged_by mine frame ≡ how → followed_by mine (frame ∷ later) ≡ followed_how (rules_of mine.state) mine later how
  unfolding followed
  followed_as frame later how is = ap (followed_how (rules_of mine.state) mine later) is

  -- a frame ends it
  pub follows_end : (feed : Feed) (status : Status) (frame : Frame) (last : End) → GivesFrame frame feed.rest → judged_by mine frame ≡ Ends last → status ≡ end_status last
      → EndsThere (shown_follower mine) feed status
  follows_end feed status frame last gives is =
      frame_there (shown_follower mine) (followed_text mine) (followed_end mine) EndedEarly (followed_moved mine) feed status frame last gives
      (λ later. ap (λ (f : Followed Stack). concat (have_texts f.haves)) (followed_as frame later (Ends last) is))
      (λ later. ap (λ (f : Followed Stack). f.end) (followed_as frame later (Ends last) is))

  -- a frame leaves it there, by whose rules it goes on
  pub followed_on : (frame : Frame) (next : Stood Stack) (later : List Frame) → LeavesAt mine (judged_by mine frame) next → rules_of next.state ≡ rules_of mine.state
      → followed_by mine (frame ∷ later) ≡ talks.with_have next (followed_by next later)
  followed_on frame next later leaves same = by_how (judged_by mine frame) refl leaves
    where
      by_how : (how : Judged Stack) → judged_by mine frame ≡ how → LeavesAt mine how next → followed_by mine (frame ∷ later) ≡ talks.with_have next (followed_by next later)
      by_how Stays is left = followed_as frame later Stays is ∙ ap (λ (s : Stood Stack). talks.with_have s (followed_by s later)) (sym left)
      by_how (Takes taken) is left =
          followed_as frame later (Takes taken) is ∙ ap (λ (s : Stood Stack). talks.with_have s (followed (rules_of mine.state) s later)) (sym left)
          ∙ ap (λ (r : Rules Stack). talks.with_have next (followed r next later)) (sym same)
      by_how (Ends last) is left = absurd left

  -- it shows a Have of where the frame left it, and then as from there
  pub follows_on : (frame : Frame) (bytes : List ℕ) (next : Stood Stack) → GivesFrame frame bytes → LeavesAt mine (judged_by mine frame) next → rules_of next.state ≡ rules_of mine.state
      → ShowsFirst (shown_follower mine) bytes (spelled (Have next.at)) (shown_follower next) (behind_first bytes)
  follows_on frame bytes next gives leaves same =
      shows_frame (shown_follower mine) (shown_follower next) (followed_text mine) (followed_text next) (followed_end mine) (followed_end next) EndedEarly (followed_moved mine) (followed_moved next) frame bytes (spelled (Have next.at)) gives
      (λ later. ap (λ (f : Followed Stack). concat (have_texts f.haves)) (followed_on frame next later leaves same))
      (λ later. ap (λ (f : Followed Stack). f.end) (followed_on frame next later leaves same))

-- the first Have, and then as where it stands is shown
pub first_have : (mine : Stood Stack) → ShowsFirst (follower_party mine) [] (spelled (Have mine.at)) (shown_follower mine) []
first_have mine = record { text = λ more. refl; end = λ more over. refl }
