-- What a leader or a follower makes of what stands in front of its reader.
use Rattle.std.proofs.Common.{◌≡◌, inl, inr, Option, Some, None, Err, refl, sym, ap}
use Rattle.std.specs.Prelude.{IfSome}
use Rattle.std.specs.Option.{ok_or, option_map}
use Rattle.ox_feed.specs.Feed.{Feed}
use Rattle.ox_follow.specs.Frame.{FitsFrame, Have, plain}
use Rattle.ox_follow.specs.World.{Leader, Stood, answer_to}
use Rattle.ox_follow.specs.declared.frame.Frame.{Frame as FrameValue}
use Rattle.ox_follow.specs.declared.frame.Frame.TheVariants as values
use Rattle.ox_follow.specs.declared.frame.Position.{Position}
use Rattle.ox_model.specs.Stack.{Stack}
use Rattle.ox_pieces.specs.Frames.{GivesFrame}
use Rattle.ox_pieces.specs.Stood.{rules_of}
use Rattle.ox_app.specs.OneFrame.{AnswersInFront, EndsThere, IsInFront, shown_follower}
use Rattle.ox_app.specs.Status.{IsFollowTalk}
use Rattle.ox_app.specs.Talks.{leader_party}
use Rattle.ox_app.specs.declared.status.Status.{Status}
use Rattle.ox_app.specs.declared.status.Status.TheVariants as ends
use Rattle.ox_app.proofs.FrameTalks.{follows_bad, follows_over, leads_bad, leads_none, leads_on, leads_over, leads_past}

value_have : (frame : FrameValue) (at : Position) → plain frame ≡ Have at → frame ≡ values.Have at
value_have (values.Base at' profile depth body) at is = absurd (cc is)
value_have (values.Step at' payload) at is = absurd (cc is)
value_have (values.Have at') at is = let same : at' ≡ at = cc is in ap (λ (p : Position). values.Have p) same
value_have (values.Level at') at is = absurd (cc is)

module _ (leader : Leader Stack) (feed : Feed) where
  -- no frame stands there
  pub lead_ended : (status : Status) → IsInFront ends.Done feed (Err status) → EndsThere (leader_party leader) feed status
  lead_ended status (inl bad) = leads_bad leader feed status bad.0 bad.1
  lead_ended status (inr over) = leads_over leader feed status over.0 over.1 over.2

  -- one that is no Have
  pub lead_other : (frame : FrameValue) → GivesFrame (plain frame) feed.rest → ((at : Position) → frame ≡ values.Have at → ⊥) → EndsThere (leader_party leader) feed ends.BadFrame
  lead_other frame gives other = leads_none leader feed ends.BadFrame (plain frame) gives (λ at is. other at (value_have frame at is)) refl

  -- a Have, by what comes behind it
  pub lead_have : (at : Position) (next : Option FrameValue) → GivesFrame (Have at) feed.rest → option_map plain next ≡ answer_to (rules_of leader.state) leader at → IfSome next (λ frame. FitsFrame (plain frame))
      → AnswersInFront leader feed (ok_or next ends.Ahead)
  lead_have at None gives answer fits = leads_past leader feed ends.Ahead at gives (sym answer) refl
  lead_have at (Some frame) gives answer fits = record { fits = fits; shows = leads_on leader at feed.rest (plain frame) gives (sym answer); shorter = gives.shorter }

module _ (mine : Stood Stack) (feed : Feed) where
  pub follow_ended : (status : Status) → IsInFront ends.EndedEarly feed (Err status) → EndsThere (shown_follower mine) feed status
  follow_ended status (inl bad) = follows_bad mine feed status bad.0 bad.1
  follow_ended status (inr over) = follows_over mine feed status over.0 over.1 over.2

pub front_follow : (feed : Feed) (status : Status) → IsInFront ends.EndedEarly feed (Err status) → IsFollowTalk status
front_follow feed status (inl bad) = inr (inl bad.1)
front_follow feed status (inr over) = inr (inr (inl over.2))
