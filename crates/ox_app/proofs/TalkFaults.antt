-- What fails in a talk, and how it ends then.
use Rattle.std.proofs.Common.{◌≡◌, ◌∙◌, inl, inr, false, eqb, refl, sym, ap}
use Rattle.std.specs.Prelude.{Result, Ok, Err, IsErrOf}
use Rattle.ox_outside.specs.Counts.{Counts, IsFailure, NoFault, NoneFell, StopsAtFault}
use Rattle.ox_outside.specs.declared.site.Failed.{Failed}
use Rattle.ox_outside.specs.declared.site.Site.{Ghosts as Meanings}
use Rattle.ox_outside.proofs.Counts.{stops_after, stops_as, stops_at_none, then_rose, went_on}
use Rattle.ox_feed.specs.declared.lines.FeedFault.{FeedFault}
use Rattle.ox_feed.specs.declared.lines.FeedFault.TheVariants as feeds
use Rattle.ox_follow.specs.Talk.{End}
use Rattle.ox_follow.specs.Talk as talks
use Rattle.ox_app.specs.OneFrame.{Faults}
use Rattle.ox_app.specs.Show.{HearFails, ShowFails}
use Rattle.ox_app.specs.Status.{IsFollowTalk, IsLeadTalk, code_of, end_status, feed_status}
use Rattle.ox_app.specs.declared.status.Status.{Status}
use Rattle.ox_app.specs.declared.status.Status.TheVariants as ends
use Rattle.ox_app.proofs.Statuses.{ends_apart}
use Rattle.ox_app.proofs.Talking.{IsStop}

-- ---- statuses

-- a status that ends no talk by frames, by its code
abbrev pub IsNoEnd : Status → Type 0
IsNoEnd status =
    (eqb 0 (code_of status) ≡ false) × (eqb 11 (code_of status) ≡ false) × (eqb 12 (code_of status) ≡ false) × (eqb 13 (code_of status) ≡ false)

pub end_apart : (end : End) (status : Status) → IsNoEnd status → end_status end ≡ status → ⊥
end_apart talks.Done status none = ends_apart ends.Done status none.0
end_apart talks.BadFrame status none = ends_apart ends.BadFrame status none.1
end_apart talks.Ahead status none = ends_apart ends.Ahead status none.2
end_apart talks.EndedEarly status none = ends_apart ends.EndedEarly status none.3

pub no_end_stops : (status : Status) → IsNoEnd status → IsStop status
no_end_stops status none end is = end_apart end status none (sym is)

-- so it isn't the end of the feed's bound
pub end_bounded : (end : End) (status : Status) → status ≡ end_status end → status ≡ ends.TooMuch → ⊥
end_bounded end status is much = end_apart end ends.TooMuch (refl, refl, refl, refl) (sym is ∙ much)

pub heard_stops : (fault : FeedFault) → IsStop (feed_status fault)
heard_stops feeds.HearFault = no_end_stops ends.HearFault (refl, refl, refl, refl)
heard_stops feeds.TooMuch = no_end_stops ends.TooMuch (refl, refl, refl, refl)
heard_stops feeds.Memory = no_end_stops ends.Memory (refl, refl, refl, refl)

pub heard_too_much : (fault : FeedFault) → feed_status fault ≡ ends.TooMuch → fault ≡ feeds.TooMuch
heard_too_much feeds.HearFault is = absurd (ends_apart ends.HearFault ends.TooMuch refl is)
heard_too_much feeds.TooMuch is = refl
heard_too_much feeds.Memory is = absurd (ends_apart ends.Memory ends.TooMuch refl is)

heard_hear : (fault : FeedFault) → feed_status fault ≡ ends.HearFault → fault ≡ feeds.HearFault
heard_hear feeds.HearFault is = refl
heard_hear feeds.TooMuch is = absurd (ends_apart ends.TooMuch ends.HearFault refl is)
heard_hear feeds.Memory is = absurd (ends_apart ends.Memory ends.HearFault refl is)

heard_disk : (fault : FeedFault) → feed_status fault ≡ ends.DiskFault → ⊥
heard_disk feeds.HearFault = ends_apart ends.HearFault ends.DiskFault refl
heard_disk feeds.TooMuch = ends_apart ends.TooMuch ends.DiskFault refl
heard_disk feeds.Memory = ends_apart ends.Memory ends.DiskFault refl

heard_show : (fault : FeedFault) → feed_status fault ≡ ends.ShowFault → ⊥
heard_show feeds.HearFault = ends_apart ends.HearFault ends.ShowFault refl
heard_show feeds.TooMuch = ends_apart ends.TooMuch ends.ShowFault refl
heard_show feeds.Memory = ends_apart ends.Memory ends.ShowFault refl

pub heard_lead : (fault : FeedFault) → IsLeadTalk (feed_status fault)
heard_lead feeds.HearFault = inr (inr (inr (inl refl)))
heard_lead feeds.TooMuch = inr (inr (inr (inr (inr (inr refl)))))
heard_lead feeds.Memory = inr (inr (inr (inr (inr (inl refl)))))

pub heard_follow : (fault : FeedFault) → IsFollowTalk (feed_status fault)
heard_follow feeds.HearFault = inr (inr (inr (inr (inl refl))))
heard_follow feeds.TooMuch = inr (inr (inr (inr (inr (inr (inr refl))))))
heard_follow feeds.Memory = inr (inr (inr (inr (inr (inr (inl refl))))))

-- ---- faults

err_same : {T E : Type 0} (a b : E) → IsErrOf {T = T} (Err a) b → a ≡ b
err_same a b is = cc is

pub heard_well : {T : Type 0} (x : T) (old new : Counts) → StopsAtFault ⊥ (IsErrOf {T = T} {E = FeedFault} (Ok x) feeds.HearFault) ⊥ old new → NoFault old new
heard_well {T} x old new stopped = went_on ⊥ (IsErrOf {T = T} {E = FeedFault} (Ok x) feeds.HearFault) ⊥ old new (λ no. no) (λ is. cc is) (λ no. no) stopped

module _ {S : Type 0} (means : Meanings S) where
  -- none failed, and frames ended it
  pub no_faults : {T : Type 0} (end : End) (status : Status) (old new : S) → status ≡ end_status end → NoFault (means.counts old) (means.counts new) → Faults {T = T} means (Err status) old new
  no_faults {T} end status old new ends_as well = record {
    disk = λ is. absurd (end_apart end ends.DiskFault (refl, refl, refl, refl) (sym ends_as ∙ err_same {T = T} status ends.DiskFault is));
    hear = λ is. absurd (end_apart end ends.HearFault (refl, refl, refl, refl) (sym ends_as ∙ err_same {T = T} status ends.HearFault is));
    show = λ is. absurd (end_apart end ends.ShowFault (refl, refl, refl, refl) (sym ends_as ∙ err_same {T = T} status ends.ShowFault is));
    stops = stops_at_none _ _ _ _ _ well;
  }

  pub no_faults_yet : {T : Type 0} (x : T) (old new : S) → NoFault (means.counts old) (means.counts new) → Faults {T = T} means (Ok x) old new
  no_faults_yet x old new well = record { disk = λ is. cc is; hear = λ is. cc is; show = λ is. cc is; stops = stops_at_none _ _ _ _ _ well }

  -- those of a part that ended well
  pub faults_went : {T : Type 0} (x : T) (old new : S) → Faults {T = T} means (Ok x) old new → NoFault (means.counts old) (means.counts new)
  faults_went {T} x old new faults =
      went_on (IsErrOf {T = T} {E = Status} (Ok x) ends.DiskFault) (IsErrOf {T = T} {E = Status} (Ok x) ends.HearFault) (IsErrOf {T = T} {E = Status} (Ok x) ends.ShowFault) _ _
      (λ is. cc is) (λ is. cc is) (λ is. cc is) faults.stops

  -- hearing failed, or was given up
  pub hearing_faults : {T U : Type 0} (fault : FeedFault) (old new : S) → (IsErrOf {T = U} (Err fault) feeds.HearFault → HearFails means old new)
      → StopsAtFault ⊥ (IsErrOf {T = U} (Err fault) feeds.HearFault) ⊥ (means.counts old) (means.counts new) → Faults {T = T} means (Err (feed_status fault)) old new
  hearing_faults {T} {U} fault old new fails stopped = record {
    disk = λ is. absurd (heard_disk fault (err_same {T = T} _ _ is));
    hear = λ is. fails (ap Err (heard_hear fault (err_same {T = T} _ _ is)));
    show = λ is. absurd (heard_show fault (err_same {T = T} _ _ is));
    stops = stops_as ⊥ (IsErrOf {T = U} (Err fault) feeds.HearFault) ⊥
        (IsErrOf {T = T} (Err (feed_status fault)) ends.DiskFault) (IsErrOf {T = T} (Err (feed_status fault)) ends.HearFault) (IsErrOf {T = T} (Err (feed_status fault)) ends.ShowFault) _ _
        (λ no. absurd no) (λ is. let same : fault ≡ feeds.HearFault = err_same {T = U} _ _ is in ap (λ (f : FeedFault). Err (feed_status f)) same) (λ no. absurd no) stopped;
  }

  -- showing failed
  pub showing_faults : {T U : Type 0} (answer : Result U Failed) (old new : S) → ShowFails means old new → StopsAtFault ⊥ ⊥ (IsFailure answer) (means.counts old) (means.counts new)
      → Faults {T = T} means (Err ends.ShowFault) old new
  showing_faults {T} answer old new fails stopped = record {
    disk = λ is. absurd (ends_apart ends.ShowFault ends.DiskFault refl (err_same {T = T} _ _ is));
    hear = λ is. absurd (ends_apart ends.ShowFault ends.HearFault refl (err_same {T = T} _ _ is));
    show = λ is. fails;
    stops = stops_as ⊥ ⊥ (IsFailure answer) (IsErrOf {T = T} (Err ends.ShowFault) ends.DiskFault) (IsErrOf {T = T} (Err ends.ShowFault) ends.HearFault) (IsErrOf {T = T} (Err ends.ShowFault) ends.ShowFault) _ _
        (λ no. absurd no) (λ no. absurd no) (λ failed. refl) stopped;
  }

  -- behind calls of which none failed
  pub faults_after : {T : Type 0} (result : Result T Status) (old mid new : S) → NoFault (means.counts old) (means.counts mid) → NoneFell (means.counts old) (means.counts mid) → Faults means result mid new
      → Faults means result old new
  faults_after result old mid new well fell faults = record {
    disk = λ is. then_rose _ _ _ fell.disk (faults.disk is);
    hear = λ is. then_rose _ _ _ (fell.hear 0) (faults.hear is);
    show = λ is. then_rose _ _ _ (fell.show 0) (faults.show is);
    stops = stops_after _ _ _ _ _ _ well faults.stops;
  }

  -- of a part that ended alike
  pub faults_as : {T U : Type 0} (status : Status) (old new : S) → Faults {T = T} means (Err status) old new → Faults {T = U} means (Err status) old new
  faults_as {T} {U} status old new faults = record {
    disk = λ is. faults.disk (ap Err (err_same {T = U} _ _ is));
    hear = λ is. faults.hear (ap Err (err_same {T = U} _ _ is));
    show = λ is. faults.show (ap Err (err_same {T = U} _ _ is));
    stops = stops_as _ _ _ _ _ _ _ _ (λ is. ap Err (err_same {T = T} _ _ is)) (λ is. ap Err (err_same {T = T} _ _ is)) (λ is. ap Err (err_same {T = T} _ _ is)) faults.stops;
  }
