-- Runs that look at the files and then only talk, and what is shown in them.
use Rattle.std.proofs.Common.{◌≡◌, ◌∙◌, ◌⊎◌, inl, inr, ℕ, zero, suc, List, [], ◌∷◌, take, Option, Some, refl, sym, ap, subst}
use Rattle.std.specs.Prelude.{Result, Ok, Err, IsErrOf}
use Rattle.std.proofs.lemmas.List.{append-nil}
use Rattle.ox_outside.specs.Crash.{Remains, MayLeaveFiles}
use Rattle.ox_outside.specs.Event.{Event, shown_bytes}
use Rattle.ox_outside.specs.Files.{Files}
use Rattle.ox_outside.specs.declared.site.Site.{Ghosts as Meanings}
use Rattle.ox_outside.specs.Log.{Grows}
use Rattle.ox_outside.proofs.Log.{grows_none, grows_same, grows_weaker}
use Rattle.ox_model.specs.Stack.{Stack}
use Rattle.ox_files.specs.Stands.{Misfit, stands}
use Rattle.ox_sat.specs.declared.profiles.ProfileName.{ProfileName}
use Rattle.ox_store.specs.Make.{made_stack}
use Rattle.ox_feed.specs.Feed.{FeedLine, lines_of}
use Rattle.ox_files.specs.Moments.{lines_in}
use Rattle.ox_model.specs.Replies.{after_on, replies_on}
use Rattle.ox_store.specs.Fault.{IsMisfit}
use Rattle.ox_store.specs.declared.fault.OpenFault.{OpenFault}
use Rattle.ox_store.specs.declared.fault.OpenFault.TheVariants as opens
use Rattle.ox_app.proofs.Pieces.{front_none}
use Rattle.ox_outside.proofs.Calls.{leaves_then, leaves_weaker}
use Rattle.ox_app.proofs.Prefixes.{stops_none}
use Rattle.ox_app.specs.Headline.{Leaves, StopsBefore, Survives}
use Rattle.ox_app.specs.Init.{MadeBefore}
use Rattle.ox_gated.specs.Tail.{IsSettled}
use Rattle.ox_gated.specs.declared.fault.Halt.TheVariants as halts
use Rattle.ox_outside.specs.Runs.{LeavesOnly, OnlyLooks, OnlyTalks}
use Rattle.ox_app.specs.Show.{ShowsFront, ShowsReply, ShowsText, ShowsWhole}
use Rattle.ox_app.specs.Status.{status_of}
use Rattle.ox_app.specs.declared.status.Status.{Status}
use Rattle.ox_app.specs.declared.stop.Stop.{Stop}
use Rattle.ox_app.specs.declared.stop.Stop.TheVariants as stops
use Rattle.ox_app.specs.declared.status.Status.TheVariants.{Done, DiskFault, Memory, NotEmpty, NotStore, ShowFault}
use Rattle.ox_app.specs.Unopened.{LogsUnopened, UnopenedAs}

-- ---- statuses that differ

pub done_opens : Done ≡ NotStore → ⊥
done_opens e = cc

pub memory_opens : Memory ≡ NotStore → ⊥
memory_opens e = cc

pub memory_undone : Memory ≡ Done → ⊥
memory_undone e = cc

pub show_opens : ShowFault ≡ NotStore → ⊥
show_opens e = cc

pub show_undone : ShowFault ≡ Done → ⊥
show_undone e = cc

-- where bytes came to be shown a run ends in no other way
pub record OnlyTold (status : Status) : Type 0 where
  pub not_empty : status ≡ NotEmpty → ⊥
  pub disk : status ≡ DiskFault → ⊥
  pub memory : status ≡ Memory → ⊥

pub only_told : (status : Status) → (status ≡ Done) ⊎ (status ≡ ShowFault) → OnlyTold status
only_told status (inl a) = record {
  not_empty = λ b. let e : Done ≡ NotEmpty = sym a ∙ b in cc e;
  disk = λ b. let e : Done ≡ DiskFault = sym a ∙ b in cc e;
  memory = λ b. let e : Done ≡ Memory = sym a ∙ b in cc e;
}
only_told status (inr a) = record {
  not_empty = λ b. let e : ShowFault ≡ NotEmpty = sym a ∙ b in cc e;
  disk = λ b. let e : ShowFault ≡ DiskFault = sym a ∙ b in cc e;
  memory = λ b. let e : ShowFault ≡ Memory = sym a ∙ b in cc e;
}

-- a feed that ends out of memory
pub stopped_by_memory : (result : Result (Unit {0}) Stop) → status_of result ≡ Memory → IsErrOf result (stops.Halt halts.Memory)
stopped_by_memory (Ok done) e = cc
stopped_by_memory (Err (stops.Halt halts.Disk)) e = cc
stopped_by_memory (Err stops.HearFault) e = cc
stopped_by_memory (Err stops.ShowFault) e = cc
stopped_by_memory (Err (stops.Halt halts.Memory)) e = refl
stopped_by_memory (Err stops.TooMuch) e = cc

-- ---- replies

-- the run that is looked at began with another log that is the same
pub grows_from : (P : List Event → Type 0) (first mid now : Option (List Event)) → mid ≡ first → Grows P mid now → Grows P first now
grows_from P first mid now same grows = subst (λ (l : Option (List Event)). Grows P l now) same grows

pub reply_whole : (bytes : List ℕ) (first mid now : Option (List Event)) → mid ≡ first → Grows (ShowsWhole bytes) mid now → Grows (ShowsReply bytes Done) first now
reply_whole bytes first mid now same grows =
    grows_from (ShowsReply bytes Done) first mid now same
    (grows_weaker (ShowsWhole bytes) (ShowsReply bytes Done) mid now
    (λ events shows. record {
      front = record { quiet = shows.quiet; shown = ([], append-nil (shown_bytes 0 events) ∙ shows.shown) };
      whole = λ _. shows.shown;
    }) grows)

pub reply_front : (bytes : List ℕ) (status : Status) (first mid now : Option (List Event)) → (status ≡ Done → ⊥) → mid ≡ first → Grows (ShowsFront bytes) mid now → Grows (ShowsReply bytes status) first now
reply_front bytes status first mid now isnt same grows =
    grows_from (ShowsReply bytes status) first mid now same
    (grows_weaker (ShowsFront bytes) (ShowsReply bytes status) mid now (λ events shows. record { front = shows; whole = λ is. absurd (isnt is) }) grows)

-- nothing is shown
pub reply_none : (bytes : List ℕ) (status : Status) (first now : Option (List Event)) → (status ≡ Done → ⊥) → now ≡ first → Grows (ShowsReply bytes status) first now
reply_none bytes status first now isnt same =
    grows_same (ShowsReply bytes status) first first now (grows_none (ShowsReply bytes status) first (record { front = front_none bytes; whole = λ is. absurd (isnt is) })) same

-- bytes are shown behind calls that logged nothing
pub told_after : {S : Type 0} (means : Meanings S) (bytes line : List ℕ) (status : Status) (old mid new : S) → bytes ≡ line → means.log mid ≡ means.log old → ShowsText means bytes status mid new → ShowsText means line status old new
told_after means bytes line status old mid new is same shows =
    subst (λ (l : List ℕ). Grows (ShowsReply l status) (means.log old) (means.log new)) is
    (grows_from (ShowsReply bytes status) (means.log old) (means.log mid) (means.log new) same shows)

-- two readings of the same files
pub same_stack : (standing : Result Stack Misfit) (a b : Stack) → standing ≡ Ok a → standing ≡ Ok b → a ≡ b
same_stack standing a b e f = cc (sym e ∙ f)

-- ---- what a crash leaves

made_any : (name : ProfileName) (depth : ℕ) (files : Files) (events : List Event) → stands files ≡ Ok (made_stack name depth) → MadeBefore name depth files events
made_any name depth files [] stood = tt
made_any name depth files (event ∷ events) stood = stood

module _ {S : Type 0} (means : Meanings S) where
  pub only_looked : (old new : S) → OnlyLooks means old new → LeavesOnly means old new (λ r. MayLeaveFiles means.may_leave old r.files)
  only_looked old new looks = leaves_weaker means old new (means.may_leave old) (λ r. MayLeaveFiles means.may_leave old r.files) (λ r left. (r, left, refl)) looks.moments

  pub looked_then_talked : (P : List Event → Type 0) (old mid new : S) → OnlyLooks means old mid → OnlyTalks means P mid new
      → LeavesOnly means old new (λ r. MayLeaveFiles means.may_leave old r.files)
  looked_then_talked P old mid new looks talks =
      leaves_then means old mid new (λ r. MayLeaveFiles means.may_leave old r.files) (only_looked old mid looks)
      (leaves_weaker means mid new _ (λ r. MayLeaveFiles means.may_leave old r.files) (λ r talked. (talked.files.0, looks.nothing.crash talked.files.0 talked.files.1, talked.files.2)) talks.moments)

  pub talked_old : (P : List Event → Type 0) (old new : S) → OnlyTalks means P old new → LeavesOnly means old new (λ r. MayLeaveFiles means.may_leave old r.files)
  talked_old P old new talks = leaves_weaker means old new _ (λ r. MayLeaveFiles means.may_leave old r.files) (λ r talked. talked.files) talks.moments

  -- nothing is logged while a store is made
  pub making : (name : ProfileName) (depth : ℕ) (old mid : S) → LeavesOnly means old mid (λ r. means.log old ≡ Some r.log) → LeavesOnly means old mid (λ r. Grows (MadeBefore name depth r.files) (means.log old) (Some r.log))
  making name depth old mid =
      leaves_weaker means old mid _ _ (λ r is. grows_same (MadeBefore name depth r.files) (means.log old) (means.log old) (Some r.log) (grows_none (MadeBefore name depth r.files) (means.log old) tt) (sym is))

  -- a store is made, and then a line is shown
  pub made_then_talked : (P : List Event → Type 0) (name : ProfileName) (depth : ℕ) (old mid new : S) → LeavesOnly means old mid (λ r. means.log old ≡ Some r.log) → means.log mid ≡ means.log old
      → IsSettled means mid → stands (means.seen mid) ≡ Ok (made_stack name depth) → OnlyTalks means P mid new
      → LeavesOnly means old new (λ r. Grows (MadeBefore name depth r.files) (means.log old) (Some r.log))
  made_then_talked P name depth old mid new stays same settled stood talks =
      leaves_then means old mid new (λ r. Grows (MadeBefore name depth r.files) (means.log old) (Some r.log))
      (making name depth old mid stays)
      (leaves_weaker means mid new _ _ (λ r talked.
      grows_from (MadeBefore name depth r.files) (means.log old) (means.log mid) (Some r.log) same
      (grows_weaker P (MadeBefore name depth r.files) (means.log mid) (Some r.log)
      (λ events p. made_any name depth r.files events (ap stands (talked.files.2 ∙ settled talked.files.0 talked.files.1) ∙ stood)) talked.grown)) talks.moments)

-- ---- files that are opened

-- files that stand for a stack are no misfit, so nothing is said of them
pub no_misfit : (standing : Result Stack Misfit) (stack : Stack) (fault : OpenFault) (events : List Event) → standing ≡ Ok stack → IsMisfit standing fault → LogsUnopened fault events → events ≡ []
no_misfit standing stack (opens.NotStore file at) events is misfit logs = cc (sym is ∙ misfit)
no_misfit standing stack (opens.Halt halts.Disk) events is misfit logs = logs
no_misfit standing stack (opens.Halt halts.Memory) events is misfit logs = logs

-- where no line is shown, nothing is logged
pub says_nothing : {S : Type 0} (means : Meanings S) (fault : OpenFault) (status : Status) (old new : S) → UnopenedAs means fault status old new → (status ≡ NotStore → ⊥) → means.log new ≡ means.log old
says_nothing means (opens.NotStore file at) status old new (inl said) isnt = absurd (isnt said.0)
says_nothing means (opens.NotStore file at) status old new (inr quiet) isnt = quiet.1
says_nothing means (opens.Halt halts.Disk) status old new quiet isnt = quiet.1
says_nothing means (opens.Halt halts.Memory) status old new quiet isnt = quiet.1

lines_none : lines_in [] ≡ []
unfolding lines_of
lines_none = refl

take_none : (n : ℕ) → take n (let l : List FeedLine = [] in l) ≡ []
take_none zero = refl
take_none (suc n) = refl

module _ {S : Type 0} (means : Meanings S) where
  abbrev LeavesFrom : Stack → S → Remains → Type 0
  LeavesFrom stack old r = Grows (Leaves means.may_leave old (replies_on stack) (after_on stack) r.files) (means.log old) (Some r.log)

  -- nothing was logged, and the files might have been left before
  left_before : ((site : S) (r : Remains) → means.may_leave site r → means.log site ≡ Some r.log) → (stack : Stack) (old : S) (r : Remains) → means.may_leave old r → LeavesFrom stack old r
  left_before logs_now stack old r left =
      grows_same (Leaves means.may_leave old (replies_on stack) (after_on stack) r.files) (means.log old) (means.log old) (Some r.log)
      (grows_none (Leaves means.may_leave old (replies_on stack) (after_on stack) r.files) (means.log old) (inl (r, left, refl))) (sym (logs_now old r left))

  by_events : (stack : Stack) (old : S) (files : Files) (events : List Event) → Survives (replies_on stack) (after_on stack) events files → Leaves means.may_leave old (replies_on stack) (after_on stack) files events
  by_events stack old files [] survives =
      inr (survives.stands_for ∙ ap (λ (l : List FeedLine). Ok (after_on stack l)) (ap (take survives.kept) lines_none ∙ take_none survives.kept))
  by_events stack old files (event ∷ events) survives = survives

  -- the files are opened, and then the feed is followed
  pub opened_then_followed : ((site : S) (r : Remains) → means.may_leave site r → means.log site ≡ Some r.log) → (stack : Stack) (old mid new : S) → OnlyLooks means old mid
      → LeavesOnly means mid new (λ r. Grows (λ events. Survives (replies_on stack) (after_on stack) events r.files) (means.log mid) (Some r.log))
      → LeavesOnly means old new (LeavesFrom stack old)
  opened_then_followed logs_now stack old mid new looks followed =
      leaves_then means old mid new (LeavesFrom stack old)
      (leaves_weaker means old mid (means.may_leave old) (LeavesFrom stack old) (left_before logs_now stack old) looks.moments)
      (leaves_weaker means mid new _ (LeavesFrom stack old) (λ r survived.
      grows_from (Leaves means.may_leave old (replies_on stack) (after_on stack) r.files) (means.log old) (means.log mid) (Some r.log) looks.nothing.as_logged
      (grows_weaker (λ events. Survives (replies_on stack) (after_on stack) events r.files) (Leaves means.may_leave old (replies_on stack) (after_on stack) r.files) (means.log mid) (Some r.log)
      (by_events stack old r.files) survived)) followed)

  -- they aren't opened, though they stand for a stack
  pub unopened_yet : ((site : S) (r : Remains) → means.may_leave site r → means.log site ≡ Some r.log) → (stack : Stack) (fault : OpenFault) (old mid new : S) → stands (means.seen old) ≡ Ok stack → IsMisfit (stands (means.seen old)) fault
      → OnlyLooks means old mid → OnlyTalks means (LogsUnopened fault) mid new
      → LeavesOnly means old new (LeavesFrom stack old)
  unopened_yet logs_now stack fault old mid new stood misfit looks talks =
      leaves_then means old mid new (LeavesFrom stack old)
      (leaves_weaker means old mid (means.may_leave old) (LeavesFrom stack old) (left_before logs_now stack old) looks.moments)
      (leaves_weaker means mid new _ (LeavesFrom stack old) (λ r talked.
      grows_from (Leaves means.may_leave old (replies_on stack) (after_on stack) r.files) (means.log old) (means.log mid) (Some r.log) looks.nothing.as_logged
      (grows_weaker (LogsUnopened fault) (Leaves means.may_leave old (replies_on stack) (after_on stack) r.files) (means.log mid) (Some r.log)
      (λ events logs. subst (Leaves means.may_leave old (replies_on stack) (after_on stack) r.files) (sym (no_misfit (stands (means.seen old)) stack fault events stood misfit logs))
      (inl (talked.files.0, looks.nothing.crash talked.files.0 talked.files.1, talked.files.2))) talked.grown)) talks.moments)

  -- they aren't opened where memory runs out: the files are as they were, and nothing is logged
  pub stops_unopened : (stack : Stack) (fault : OpenFault) (status : Status) (old mid new : S) → stands (means.seen old) ≡ Ok stack → OnlyLooks means old mid
      → UnopenedAs means fault status mid new → (status ≡ NotStore → ⊥) → OnlyTalks means (LogsUnopened fault) mid new
      → Grows (StopsBefore (replies_on stack) (after_on stack) (means.seen new)) (means.log old) (means.log new)
  stops_unopened stack fault status old mid new stood looks says isnt talks =
      grows_same (StopsBefore (replies_on stack) (after_on stack) (means.seen new)) (means.log old) (means.log old) (means.log new)
      (grows_none (StopsBefore (replies_on stack) (after_on stack) (means.seen new)) (means.log old)
      (stops_none stack (means.seen new) (ap stands (talks.files.files ∙ looks.nothing.files) ∙ stood)))
      (says_nothing means fault status mid new says isnt ∙ looks.nothing.as_logged)
