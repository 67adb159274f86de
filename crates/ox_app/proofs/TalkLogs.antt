-- What a talk logs, where the log is told: parts of it, and how they end it.
use Rattle.std.proofs.Common.{◌≡◌, ◌≤◌, ℕ, List, [], ◌++◌, Option, refl, ap, subst}
use Rattle.std.specs.Prelude.{Err, IsErrOf}
use Rattle.std.proofs.lemmas.List.{append-nil}
use Rattle.ox_outside.specs.Event.{Event}
use Rattle.ox_outside.specs.Log.{Grows}
use Rattle.ox_outside.proofs.Log.{grows_none, grows_then, grows_weaker}
use Rattle.ox_feed.specs.Feed.{Feed, feed_limit, new_feed}
use Rattle.ox_feed.specs.declared.lines.FeedFault.{FeedFault}
use Rattle.ox_feed.specs.declared.lines.FeedFault.TheVariants as feeds
use Rattle.ox_pieces.specs.Frames.{Advances, IsTooMuch}
use Rattle.ox_app.specs.OneFrame.{EndsFrom, EndsThere, GoesOn, ShowsFirst}
use Rattle.ox_app.specs.Show.{ShowsFront, ShowsWhole}
use Rattle.ox_app.specs.Status.{feed_status}
use Rattle.ox_app.specs.Talks.{Party, RunsTalk}
use Rattle.ox_app.specs.declared.status.Status.{Status}
use Rattle.ox_app.specs.declared.status.Status.TheVariants as ends
use Rattle.ox_app.proofs.FollowMoments.{passed}
use Rattle.ox_app.proofs.TalkFaults.{end_bounded, heard_stops, heard_too_much, no_end_stops}
use Rattle.ox_app.proofs.Talking.{IsStop, ends_hearing, ends_showing, ends_then, ends_there, goes_hearing, goes_nowhere, goes_showing, goes_then, runs_talk}
use Rattle.ox_app.proofs.Statuses.{ends_apart}

abbrev Log : Type 0
Log = Option (List Event)

module _ (party : Party) (old mid : Feed) (log now : Log) (went : Grows (Advances old mid) log now) where
  -- hearing failed, was given up, or found no memory
  pub logs_unheard : {T : Type 0} (fault : FeedFault) → (IsErrOf {T = T} (Err fault) feeds.TooMuch → IsTooMuch mid) → Grows (EndsFrom party old mid (feed_status fault)) log now
  logs_unheard fault much =
      grows_weaker (Advances old mid) (EndsFrom party old mid (feed_status fault)) log now
      (λ x advanced. ends_hearing party old mid (feed_status fault) x advanced (heard_stops fault)
      (λ is. let bound = much (ap Err (heard_too_much fault is)) in (bound.heard, bound.more))) went

  -- it is stopped behind that, with nothing shown
  pub logs_stopped : (status : Status) → IsStop status → (status ≡ ends.TooMuch → ⊥) → Grows (EndsFrom party old mid status) log now
  logs_stopped status stop bounded =
      grows_weaker (Advances old mid) (EndsFrom party old mid status) log now (λ x advanced. ends_hearing party old mid status x advanced stop (λ is. absurd (bounded is))) went

  -- what stands in front ends it
  pub logs_ended : (status : Status) → EndsThere party mid status → Grows (EndsFrom party old mid status) log now
  logs_ended status there =
      grows_weaker (Advances old mid) (EndsFrom party old mid status) log now
      (λ x advanced. subst (EndsFrom party old mid status) (append-nil x)
      (ends_then party party old mid mid status x [] (goes_hearing party old mid x advanced)
      (ends_there party mid status there (end_bounded there.end status there.ends_as)))) went

  module _ (next : Party) (said : List ℕ) (first : ShowsFirst party mid.rest said next (passed mid).rest) (after : Log) where
    -- it is answered
    pub logs_answered : Grows (ShowsWhole said) now after → Grows (GoesOn party old next (passed mid)) log after
    logs_answered =
        grows_then (Advances old mid) (ShowsWhole said) (GoesOn party old next (passed mid)) log now after
        (λ x y advanced shows. goes_then party party next old mid (passed mid) x y (goes_hearing party old mid x advanced) (goes_showing party next mid (passed mid) said y refl refl first shows)) went

    -- a front of its answer is shown
    pub logs_unshown : Grows (ShowsFront said) now after → Grows (EndsFrom party old (passed mid) ends.ShowFault) log after
    logs_unshown =
        grows_then (Advances old mid) (ShowsFront said) (EndsFrom party old (passed mid) ends.ShowFault) log now after
        (λ x y advanced shows. ends_then party party old mid (passed mid) ends.ShowFault x y (goes_hearing party old mid x advanced)
        (ends_showing party next mid (passed mid) said (passed mid).rest ends.ShowFault y refl refl first shows (no_end_stops ends.ShowFault (refl, refl, refl, refl)) (ends_apart ends.ShowFault ends.TooMuch refl))) went

-- ---- from part to part

pub logs_none : (party : Party) (feed : Feed) (log : Log) → Grows (GoesOn party feed party feed) log log
logs_none party feed log = grows_none (GoesOn party feed party feed) log (goes_nowhere party feed)

pub logs_on : (p q r : Party) (a b c : Feed) (log mid now : Log) → Grows (GoesOn p a q b) log mid → Grows (GoesOn q b r c) mid now → Grows (GoesOn p a r c) log now
logs_on p q r a b c log mid now = grows_then (GoesOn p a q b) (GoesOn q b r c) (GoesOn p a r c) log mid now (λ x y. goes_then p q r a b c x y)

-- a whole run
pub logs_run : (p q : Party) (b c : Feed) (status : Status) (log mid now : Log) → c.heard ≤ feed_limit → Grows (GoesOn p new_feed q b) log mid → Grows (EndsFrom q b c status) mid now → Grows (RunsTalk p status) log now
logs_run p q b c status log mid now few =
    grows_then (GoesOn p new_feed q b) (EndsFrom q b c status) (RunsTalk p status) log mid now
    (λ x y goes last. runs_talk p c status (x ++ y) few (ends_then p q new_feed b c status x y goes last))
