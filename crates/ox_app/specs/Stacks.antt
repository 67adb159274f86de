-- The promises on `apply` and `serve` over any stack, one that no chain gives among them. Lines,
-- replies and what a crash leaves depend on a stack alone, so they read as those of a machine do.
use Rattle.std.specs.Prelude.{ℕ, Some}
use Rattle.ox_outside.specs.Crash.{Remains}
use Rattle.ox_outside.specs.Log.{Grows}
use Rattle.ox_outside.specs.Runs.{LeavesOnly}
use Rattle.ox_outside.specs.declared.site.Site.{Ghosts as Meanings}
use Rattle.ox_model.specs.Replies.{after_on, replies_on}
use Rattle.ox_model.specs.Stack.{Stack}
use Rattle.ox_desk.specs.Servers.{server_on}
use Rattle.ox_app.specs.Turns.{StandFor}
use Rattle.ox_app.specs.Headline.{Leaves, RunsFeed, StopsBefore}
use Rattle.ox_app.specs.Serve.{LeavesServing, RunsServer}
use Rattle.ox_app.specs.declared.status.Status.{Status}

-- ---- `apply`

-- a run answers the feed from this stack on
abbrev pub FeedsOn : {S : Type 0} → Meanings S → Stack → Status → S → S → Type 0
FeedsOn means stack status old new =
    Grows (RunsFeed (replies_on stack) status) (means.log old) (means.log new)

-- there is a stack from which a run answers the feed
pub record FeedsSome {S : Type 0} (means : Meanings S) (status : Status) (old new : S)
    : Type 0 where
  pub stack : Stack
  pub feeds : FeedsOn means stack status old new

-- a crash at any moment of a run leaves files that survive what the run had logged by then
abbrev pub SurvivesOn : {S : Type 0} → Meanings S → Stack → S → S → Type 0
SurvivesOn means stack old new =
    LeavesOnly means old new (λ r.
    Grows (Leaves means.may_leave old (replies_on stack) (after_on stack) r.files)
    (means.log old) (Some r.log))

-- a run stops before the line for which there is no memory, whatever of its files a crash leaves
abbrev pub StopsOn : {S : Type 0} → Meanings S → Stack → S → S → Type 0
StopsOn means stack old new = (r : Remains) → means.may_leave new r
    → Grows (StopsBefore (replies_on stack) (after_on stack) r.files) (means.log old) (Some r.log)

-- ---- `serve`

-- a run serves links from this stack on
abbrev pub ServesOn : {S : Type 0} → Meanings S → Stack → ℕ → Status → S → S → Type 0
ServesOn means stack turns status old new =
    Grows (RunsServer server_on stack turns status (means.counts old) (means.counts new))
    (means.log old) (means.log new)

-- there is a stack from which a run serves its links
pub record ServesSome {S : Type 0} (means : Meanings S) (turns : ℕ) (status : Status)
    (old new : S) : Type 0 where
  pub stack : Stack
  pub serves : ServesOn means stack turns status old new

-- a crash at any moment of a run leaves files that survive what its links had done by then
abbrev pub SurvivesServingOn : {S : Type 0} → Meanings S → Stack → S → S → Type 0
SurvivesServingOn means stack old new =
    LeavesOnly means old new (λ r.
    Grows (LeavesServing means.may_leave old server_on stack StandFor r.files)
    (means.log old) (Some r.log))
