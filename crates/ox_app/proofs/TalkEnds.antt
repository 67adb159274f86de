-- How the runs of `lead` and `follow` end, as a run promises it.
use Rattle.std.proofs.Common.{◌≡◌, ◌≢◌, ◌∙◌, ◌⊎◌, inl, inr, false, eqb, List, [], ◌∷◌, Option, Some, refl, sym, ap, subst}
use Rattle.std.specs.Prelude.{Err}
use Rattle.ox_outside.specs.Event.{Event, has_ended}
use Rattle.ox_outside.specs.Files.{Files}
use Rattle.ox_outside.specs.declared.site.Site.{Ghosts as Meanings}
use Rattle.ox_outside.proofs.Counts.{stops_as}
use Rattle.ox_outside.proofs.Log.{grows_weaker}
use Rattle.ox_outside.proofs.Calls.{leaves_weaker}
use Rattle.ox_follow.specs.Talk as talks
use Rattle.ox_follow.specs.World.{Stood}
use Rattle.ox_model.specs.Stack.{Stack}
use Rattle.ox_pieces.specs.Stood.{stood_in}
use Rattle.ox_app.specs.Follow.{FollowsFrom, IsFollowInTurn, LeavesFollowing, SurvivesFollowing, SurvivesFrames}
use Rattle.ox_app.specs.OneFrame.{RunFaults}
use Rattle.ox_app.specs.Show.{DiskFails, EndsAtFault, HearFails, ShowFails}
use Rattle.ox_app.specs.Status.{IsFollowStatus, IsLeadStatus, IsRefusal, code_of}
use Rattle.ox_app.specs.Talks.{EndsTalk, Party, RunsTalk}
use Rattle.ox_app.specs.declared.status.Status.{Status}
use Rattle.ox_app.specs.declared.status.Status.TheVariants as ends
use Rattle.ox_app.proofs.Done.{contradicts}
use Rattle.ox_app.proofs.Statuses.{ended_otherwise}

-- ---- how they don't end

-- a status that ends neither run, by its code
abbrev pub IsOther : Status → Type 0
IsOther status =
    (eqb 0 (code_of status) ≡ false) × (eqb 3 (code_of status) ≡ false) × (eqb 4 (code_of status) ≡ false) × (eqb 5 (code_of status) ≡ false) × (eqb 6 (code_of status) ≡ false)
    × (eqb 8 (code_of status) ≡ false) × (eqb 9 (code_of status) ≡ false) × (eqb 11 (code_of status) ≡ false) × (eqb 12 (code_of status) ≡ false) × (eqb 13 (code_of status) ≡ false)

-- a run doesn't end so
abbrev pub EndsOtherwise : Status → Type 0
EndsOtherwise status = (other : Status) → IsOther other → status ≡ other → ⊥

pub lead_otherwise : (status : Status) → IsLeadStatus status → EndsOtherwise status
lead_otherwise status (inl (inl is)) other none = ended_otherwise status ends.NotStore other none.1 is
lead_otherwise status (inl (inr (inl is))) other none = ended_otherwise status ends.DiskFault other none.2 is
lead_otherwise status (inl (inr (inr is))) other none = ended_otherwise status ends.Memory other none.5 is
lead_otherwise status (inr (inl is)) other none = ended_otherwise status ends.Done other none.0 is
lead_otherwise status (inr (inr (inl is))) other none = ended_otherwise status ends.BadFrame other none.7 is
lead_otherwise status (inr (inr (inr (inl is)))) other none = ended_otherwise status ends.Ahead other none.8 is
lead_otherwise status (inr (inr (inr (inr (inl is))))) other none = ended_otherwise status ends.HearFault other none.3 is
lead_otherwise status (inr (inr (inr (inr (inr (inl is)))))) other none = ended_otherwise status ends.ShowFault other none.4 is
lead_otherwise status (inr (inr (inr (inr (inr (inr (inl is))))))) other none = ended_otherwise status ends.Memory other none.5 is
lead_otherwise status (inr (inr (inr (inr (inr (inr (inr is))))))) other none = ended_otherwise status ends.TooMuch other none.6 is

pub follow_otherwise : (status : Status) → IsFollowStatus status → EndsOtherwise status
follow_otherwise status (inl (inl is)) other none = ended_otherwise status ends.NotStore other none.1 is
follow_otherwise status (inl (inr (inl is))) other none = ended_otherwise status ends.DiskFault other none.2 is
follow_otherwise status (inl (inr (inr is))) other none = ended_otherwise status ends.Memory other none.5 is
follow_otherwise status (inr (inl is)) other none = ended_otherwise status ends.Done other none.0 is
follow_otherwise status (inr (inr (inl is))) other none = ended_otherwise status ends.BadFrame other none.7 is
follow_otherwise status (inr (inr (inr (inl is)))) other none = ended_otherwise status ends.EndedEarly other none.9 is
follow_otherwise status (inr (inr (inr (inr (inl is))))) other none = ended_otherwise status ends.DiskFault other none.2 is
follow_otherwise status (inr (inr (inr (inr (inr (inl is)))))) other none = ended_otherwise status ends.HearFault other none.3 is
follow_otherwise status (inr (inr (inr (inr (inr (inr (inl is))))))) other none = ended_otherwise status ends.ShowFault other none.4 is
follow_otherwise status (inr (inr (inr (inr (inr (inr (inr (inl is)))))))) other none = ended_otherwise status ends.Memory other none.5 is
follow_otherwise status (inr (inr (inr (inr (inr (inr (inr (inr is)))))))) other none = ended_otherwise status ends.TooMuch other none.6 is

pub record NotTalk (status : Status) : Type 0 where
  pub usage : status ≡ ends.Usage → ⊥
  pub not_empty : status ≡ ends.NotEmpty → ⊥
  pub door : status ≡ ends.DoorFault → ⊥
  pub old : status ≡ ends.OldCommand → ⊥

pub not_talk : (status : Status) → EndsOtherwise status → NotTalk status
not_talk status otherwise = record {
  usage = otherwise ends.Usage (refl, refl, refl, refl, refl, refl, refl, refl, refl, refl);
  not_empty = otherwise ends.NotEmpty (refl, refl, refl, refl, refl, refl, refl, refl, refl, refl);
  door = otherwise ends.DoorFault (refl, refl, refl, refl, refl, refl, refl, refl, refl, refl);
  old = otherwise ends.OldCommand (refl, refl, refl, refl, refl, refl, refl, refl, refl, refl);
}

-- how one ends that refuses
pub talk_refuses : (status : Status) → NotTalk status → IsRefusal status → status ≡ ends.NotStore
talk_refuses status none (inl e) = absurd (none.usage e)
talk_refuses status none (inr (inl e)) = absurd (none.not_empty e)
talk_refuses status none (inr (inr (inl e))) = e
talk_refuses status none (inr (inr (inr e))) = absurd (none.old e)

-- ---- how they do

module _ {S : Type 0} (means : Meanings S) (party : Party) (status : Status) (old new : S) (opened : status ≡ ends.NotStore → ⊥) (faults : RunFaults means status old new)
    (no_disk : DiskFails means old new → ⊥) (no_hear : HearFails means old new → ⊥) (no_show : ShowFails means old new → ⊥) where
  -- a channel that ends before its bound isn't given up
  given_up : (events : List Event) → RunsTalk party status events → status ≡ ends.TooMuch → EndsTalk status events
  given_up events runs is ended =
      let limit = runs.too_much is in
      absurd (contradicts (has_ended 0 events) (ended limit.0) limit.1)

  -- without a fault frames or the end of the channel end a run, or memory runs out
  pub lead_done : IsLeadStatus status → (events : List Event) → RunsTalk party status events → EndsTalk status events
  lead_done (inl (inl is)) events runs ended = absurd (opened is)
  lead_done (inl (inr (inl is))) events runs ended = absurd (no_disk (faults.disk (ap Err is)))
  lead_done (inl (inr (inr is))) events runs ended = inr is
  lead_done (inr (inl is)) events runs ended = inl (talks.Done, is)
  lead_done (inr (inr (inl is))) events runs ended = inl (talks.BadFrame, is)
  lead_done (inr (inr (inr (inl is)))) events runs ended = inl (talks.Ahead, is)
  lead_done (inr (inr (inr (inr (inl is))))) events runs ended = absurd (no_hear (faults.hear (ap Err is)))
  lead_done (inr (inr (inr (inr (inr (inl is)))))) events runs ended = absurd (no_show (faults.show (ap Err is)))
  lead_done (inr (inr (inr (inr (inr (inr (inl is))))))) events runs ended = inr is
  lead_done (inr (inr (inr (inr (inr (inr (inr is))))))) events runs ended = given_up events runs is ended

  pub follow_done : IsFollowStatus status → (events : List Event) → RunsTalk party status events → EndsTalk status events
  follow_done (inl (inl is)) events runs ended = absurd (opened is)
  follow_done (inl (inr (inl is))) events runs ended = absurd (no_disk (faults.disk (ap Err is)))
  follow_done (inl (inr (inr is))) events runs ended = inr is
  follow_done (inr (inl is)) events runs ended = inl (talks.Done, is)
  follow_done (inr (inr (inl is))) events runs ended = inl (talks.BadFrame, is)
  follow_done (inr (inr (inr (inl is)))) events runs ended = inl (talks.EndedEarly, is)
  follow_done (inr (inr (inr (inr (inl is))))) events runs ended = absurd (no_disk (faults.disk (ap Err is)))
  follow_done (inr (inr (inr (inr (inr (inl is)))))) events runs ended = absurd (no_hear (faults.hear (ap Err is)))
  follow_done (inr (inr (inr (inr (inr (inr (inl is))))))) events runs ended = absurd (no_show (faults.show (ap Err is)))
  follow_done (inr (inr (inr (inr (inr (inr (inr (inl is)))))))) events runs ended = inr is
  follow_done (inr (inr (inr (inr (inr (inr (inr (inr is)))))))) events runs ended = given_up events runs is ended

module _ {S : Type 0} (means : Meanings S) where
  -- a call fails at most once, as the status says
  pub talk_stops : (status : Status) (old new : S) → RunFaults means status old new → EndsAtFault status (means.counts old) (means.counts new)
  talk_stops status old new faults =
      stops_as _ _ _ (status ≡ ends.DiskFault) (status ≡ ends.HearFault) ((status ≡ ends.ShowFault) ⊎ IsRefusal status) _ _ (λ is. cc is) (λ is. cc is) (λ is. let same : status ≡ ends.ShowFault = cc is in inl same)
      faults.stops

  -- ---- runs one after the other

  same_place : (place : Option (Stood Stack)) (a b : Stood Stack) → place ≡ Some a → place ≡ Some b → a ≡ b
  same_place place a b e f = cc (sym e ∙ f)

  -- wherever the files stand that a run opens, it is the same place
  in_turn_by_events : (mine : Stood Stack) (old : S) (files : Files) (events : List Event) → stood_in (means.seen old) ≡ Some mine → LeavesFollowing means.may_leave old mine files events → events ≢ []
      → FollowsFrom (means.seen old) (record { events = events; left = files })
  in_turn_by_events mine old files [] stood leaves some = absurd (some refl)
  in_turn_by_events mine old files (event ∷ events) stood survives some = λ other there.
      subst (λ (s : Stood Stack). SurvivesFrames s (event ∷ events) files) (same_place (stood_in (means.seen old)) mine other stood there) survives

  pub follows_in_turn : (mine : Stood Stack) (old new : S) → stood_in (means.seen old) ≡ Some mine → SurvivesFollowing means mine old new → IsFollowInTurn means old new
  follows_in_turn mine old new stood =
      leaves_weaker means old new _ _ (λ r.
      grows_weaker (LeavesFollowing means.may_leave old mine r.files) (λ events. events ≢ [] → FollowsFrom (means.seen old) (record { events = events; left = r.files })) (means.log old) (Some r.log)
      (λ events leaves. in_turn_by_events mine old r.files events stood leaves))
