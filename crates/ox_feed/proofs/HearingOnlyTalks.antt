-- What hearings on channel 0 add to the log, and what a crash leaves during them.
use Rattle.std.proofs.Common.{◌≡◌, ℕ, Bool, true, false, List, [], ◌∷◌, ◌++◌, ◌||◌, ◌∙◌, Ok, Err, Some, refl, sym}
use Rattle.std.specs.Prelude.{IsTrue, Result, if◌then◌else◌}
use Rattle.std.proofs.lemmas.List.Elements.{All-append, All-cons, All-nil}
use Rattle.ox_outside.specs.Crash.{Remains, LeavesFiles, OneCall}
use Rattle.ox_outside.specs.Runs.{OnlyTalks}
use Rattle.ox_outside.specs.Event.{Event, Heard, Ended, Broke, has_broken, has_ended, hear_events}
use Rattle.ox_outside.specs.Log.{Adds, Grows}
use Rattle.ox_outside.specs.declared.site.Failed.{Failed}
use Rattle.ox_outside.specs.declared.site.Heard.{Heard as HeardAnswer}
use Rattle.ox_outside.specs.declared.site.Site.{Ghosts as Meanings}
use Rattle.ox_outside.specs.declared.site.Heard.TheVariants.{Bytes, NotYet, End}
use Rattle.ox_outside.proofs.Log.{adds_grows}
use Rattle.ox_outside.proofs.OnlyTalks.{talks_once, talks_then}
use Rattle.ox_feed.specs.Feed.{Feed, Listens, OnlyHears, is_hearing}
use Rattle.ox_feed.specs.Held.{Waits}

abbrev IsHearing : Event → Type 0
IsHearing event = IsTrue (is_hearing event)

pub only_hears_none : OnlyHears []
only_hears_none = All-nil IsHearing

pub only_hears_one : (event : Event) → IsTrue (is_hearing event) → OnlyHears (event ∷ [])
only_hears_one event is = All-cons IsHearing event [] is only_hears_none

pub only_hears_then : (x y : List Event) → OnlyHears x → OnlyHears y → OnlyHears (x ++ y)
only_hears_then = All-append IsHearing

-- a failure is logged once
only_hears_fault : (broken : Bool) → OnlyHears (if broken then [] else Broke 0 ∷ [])
only_hears_fault true = only_hears_none
only_hears_fault false = only_hears_one (Broke 0) refl

only_hears_answer : (room : List ℕ) (result : Result HeardAnswer Failed) (log : List Event) → OnlyHears (hear_events 0 room result log)
only_hears_answer room (Ok (Bytes n)) log = only_hears_one (Heard 0 _) refl
only_hears_answer room (Ok NotYet) log = only_hears_none
only_hears_answer room (Ok End) log = only_hears_one (Ended 0) refl
only_hears_answer room (Err failed) log = only_hears_fault (has_broken 0 log)

-- nothing is heard so far
pub listens_none : (feed : Feed) → Listens feed []
listens_none feed = record { only = only_hears_none; quiet = λ over. refl }

had_ended : (a b : Bool) → IsTrue a → (a || b) ≡ false → ⊥
had_ended true b over goes_on = cc goes_on
had_ended false b over goes_on = cc over

listens_on : (feed waiting : Feed) (x y : List Event) → waiting.ended ≡ false → Waits feed waiting x → OnlyHears y → Listens feed (x ++ y)
listens_on feed waiting x y goes_on waited hears = record {
  only = only_hears_then x y waited.hears.only hears;
  quiet = λ over. absurd (had_ended feed.ended (has_ended 0 x) over (sym waited.hears.ended ∙ goes_on));
}

module _ {S : Type 0} (means : Meanings S) where
  abbrev Talks : S → S → Type 0
  Talks old new = OnlyTalks means OnlyHears old new

  abbrev Listening : Feed → S → S → Type 0
  Listening feed old new = OnlyTalks means (Listens feed) old new

  -- one hearing, whatever it answers
  pub talks_hearing : (only_now : (site : S) (r : Remains) → means.left_since site (means.clock site) r → means.may_leave site r) (logs_now : (site : S) (r : Remains) → means.may_leave site r → means.log site ≡ Some r.log)
      → (room : List ℕ) (result : Result HeardAnswer Failed) (old new : S) → Adds (hear_events 0 room result) (means.log old) (means.log new) → LeavesFiles means.seen means.may_leave old new
      → OneCall means.told means.counts means.clock means.may_leave means.left_since old new → Talks old new
  talks_hearing only_now logs_now room result old new adds files call =
      talks_once means only_now logs_now OnlyHears old new only_hears_none files call
      (adds_grows (hear_events 0 room result) OnlyHears (means.log old) (means.log new) (only_hears_answer room result) adds)

  -- a hearing more, behind those of a reader that made no lines and whose feed hasn't ended
  pub talks_on : (feed waiting : Feed) (old mid new : S) → waiting.ended ≡ false → Grows (Waits feed waiting) (means.log old) (means.log mid) → Listening feed old mid → Talks mid new → Listening feed old new
  talks_on feed waiting old mid new goes_on waits first then_ =
      talks_then means (Listens feed) (Waits feed waiting) OnlyHears (Listens feed) old mid new (λ x listens. listens)
      (λ x y waited hears. listens_on feed waiting x y goes_on waited hears) first waits then_
