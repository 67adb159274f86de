-- Without a fault a run is done, or memory ran out.
use Rattle.std.proofs.Common.{◌≡◌, ◌⊎◌, inl, inr, Bool, true, false, List, ℕ, ◌∷◌, [], refl, codes, subst, sym}
use Rattle.std.specs.Prelude.{Result, Ok, Err, IsErrOf}
use Rattle.ox_outside.specs.Event.{Event, has_ended}
use Rattle.ox_feed.specs.Feed.{FeedLine}
use Rattle.ox_gated.specs.declared.fault.Halt.TheVariants as halts
use Rattle.ox_app.specs.Headline.{RunsFeed}
use Rattle.ox_app.specs.Show.{EndsDone}
use Rattle.ox_app.specs.Status.{IsDone, IsFoldStatus, status_of}
use Rattle.ox_app.specs.Subcommands.{query_words}
use Rattle.ox_app.specs.declared.status.Status.{Status}
use Rattle.ox_app.specs.declared.status.Status.TheVariants as ends
use Rattle.ox_app.specs.declared.stop.Stop.{Stop}
use Rattle.ox_app.specs.declared.stop.Stop.TheVariants as stops
use Rattle.ox_app.proofs.Statuses.{NotFold, not_fold}

-- how a run without files ends
pub fold_ends : (r : Result (Unit {0}) Stop) → (IsErrOf r (stops.Halt halts.Disk) → ⊥) → IsFoldStatus (status_of r)
fold_ends (Ok done) no_disk = inl refl
fold_ends (Err (stops.Halt halts.Disk)) no_disk = absurd (no_disk refl)
fold_ends (Err stops.HearFault) no_disk = inr (inl refl)
fold_ends (Err stops.ShowFault) no_disk = inr (inr (inl refl))
fold_ends (Err (stops.Halt halts.Memory)) no_disk = inr (inr (inr (inl refl)))
fold_ends (Err stops.TooMuch) no_disk = inr (inr (inr (inr refl)))

-- nor in another way
pub not_folded : (r : Result (Unit {0}) Stop) (status : Status) → status ≡ status_of r → (IsErrOf r (stops.Halt halts.Disk) → ⊥) → NotFold status
not_folded r status is no_disk = not_fold status (subst IsFoldStatus (sym is) (fold_ends r no_disk))

pub contradicts : (b : Bool) → b ≡ true → b ≡ false → ⊥
contradicts b e f = cc

-- the same, without a fault and on a feed that ends
pub fold_done : (answers : List FeedLine → List (List ℕ)) (r : Result (Unit {0}) Stop) (hear show : Type 0) → (IsErrOf r (stops.Halt halts.Disk) → ⊥) → (IsErrOf r stops.HearFault → hear) → (IsErrOf r stops.ShowFault → show)
    → (hear → ⊥) → (show → ⊥) → (events : List Event) → RunsFeed answers (status_of r) events → EndsDone (status_of r) events
fold_done answers (Ok done) hear show no_disk five six no_hear no_show events runs ends = inl refl
fold_done answers (Err (stops.Halt halts.Disk)) hear show no_disk five six no_hear no_show events runs ends = absurd (no_disk refl)
fold_done answers (Err stops.HearFault) hear show no_disk five six no_hear no_show events runs ends = absurd (no_hear (five refl))
fold_done answers (Err stops.ShowFault) hear show no_disk five six no_hear no_show events runs ends = absurd (no_show (six refl))
fold_done answers (Err (stops.Halt halts.Memory)) hear show no_disk five six no_hear no_show events runs ends = inr refl
fold_done answers (Err stops.TooMuch) hear show no_disk five six no_hear no_show events runs ends =
    let limit = runs.too_much refl in
    absurd (contradicts (has_ended 0 events) (ends limit.0) limit.1)

-- a run that shows one text is done, where it isn't refused
pub text_done : (status refused : Status) (disk show : Type 0) → (status ≡ ends.Done) ⊎ (status ≡ refused) ⊎ (status ≡ ends.DiskFault) ⊎ (status ≡ ends.ShowFault) ⊎ (status ≡ ends.Memory)
    → (status ≡ refused → ⊥) → (status ≡ ends.DiskFault → disk) → (status ≡ ends.ShowFault → show) → (disk → ⊥) → (show → ⊥) → IsDone status
text_done status refused disk show (inl is) isnt four six no_disk no_show = inl is
text_done status refused disk show (inr (inl is)) isnt four six no_disk no_show = absurd (isnt is)
text_done status refused disk show (inr (inr (inl is))) isnt four six no_disk no_show = absurd (no_disk (four is))
text_done status refused disk show (inr (inr (inr (inl is)))) isnt four six no_disk no_show = absurd (no_show (six is))
text_done status refused disk show (inr (inr (inr (inr is)))) isnt four six no_disk no_show = inr is

second_of : (x a b : List ℕ) → x ∷ a ∷ [] ≡ x ∷ b ∷ [] → a ≡ b
second_of x a b is = cc is

-- the words of a query have one path
pub path_same : (a b : List ℕ) → query_words a ≡ query_words b → a ≡ b
path_same a b is = second_of (codes "query") a b is
