-- What `run` promises of a subcommand whose words came, a record each, but for what a crash leaves
-- of `apply`: that is its clause `survives`, the headline's.
use Rattle.std.specs.Prelude.{◌≡◌, ◌≢◌, ◌⊎◌, ℕ, IsTrue, List}
use Rattle.ox_outside.specs.Log.{Grows}
use Rattle.ox_outside.specs.declared.site.Site.{Ghosts as Meanings}
use Rattle.ox_files.specs.Stands.{Misfit}
use Rattle.ox_follow.specs.World.{Leader, Stood}
use Rattle.ox_model.specs.Machine.{Machine, empty_machine, stack_of}
use Rattle.ox_model.specs.Stack.{Stack}
use Rattle.ox_sat.specs.Profiles.{profile_named}
use Rattle.ox_sat.specs.declared.profiles.ProfileName.{ProfileName}
use Rattle.ox_store.specs.Make.{no_files}
use Rattle.ox_app.specs.Fold.{fold_depth}
use Rattle.ox_app.specs.Grow.{GrowsFirst, IsGrown, SaysNoGrowing, StandsForGrowing}
use Rattle.ox_app.specs.Grow.{StandsForNoGrowing, grown_line}
use Rattle.ox_app.specs.Headline.{AddsNoImage, AnswersFeed, IsRunInTurn, StandsFor, StopsAtLine}
use Rattle.ox_app.specs.Init.{IsMade, MakesFirst, made_line}
use Rattle.ox_app.specs.AnyRuns.{IsGrownInTurn, IsServedInTurn}
use Rattle.ox_app.specs.Follow.{IsFollowInTurn}
use Rattle.ox_app.specs.Query.{query_body}
use Rattle.ox_app.specs.Serve.{AnswersLinks, DoorFails, SurvivesServing}
use Rattle.ox_app.specs.Stacks.{FeedsOn, FeedsSome, ServesOn, ServesSome, StopsOn}
use Rattle.ox_app.specs.Stacks.{SurvivesOn, SurvivesServingOn}
use Rattle.ox_app.specs.Show.{DiskFails, EndsDone, HearFails, ShowFails, ShowsText}
use Rattle.ox_app.specs.Status.{IsApplyStatus, IsDone, IsFoldStatus, IsFollowStatus, IsInitStatus}
use Rattle.ox_app.specs.Status.{IsGrowStatus, IsLeadStatus, IsQueryStatus, IsServeStatus, IsSparing}
use Rattle.ox_app.specs.Status.{IsUnopened}
use Rattle.ox_app.specs.Talks.{EndsTalk, StandsAsLeader, StandsNowhere, StandsThere, Talks}
use Rattle.ox_app.specs.Talks.{follower_party, leader_party}
use Rattle.ox_app.specs.declared.status.Status.{Status}
use Rattle.ox_app.specs.declared.status.Status.TheVariants.{Done, Memory, NotEmpty, NotStore}
use Rattle.ox_app.specs.declared.status.Status.TheVariants.{ShowFault}

-- `fold`
pub record Folds {S : Type 0} (means : Meanings S) (name : ProfileName) (status : Status)
    (old new : S) : Type 0 where
  -- what was shown begins the answers to the lines heard, each by fresh indexing of the blocks that
  -- the lines before it chose, and is all of them where the run is done
  pub folds : AnswersFeed means (empty_machine (profile_named name) fold_depth) status old new
  pub fold_status : IsFoldStatus status
  -- on a feed that ends, without a fault, all is done, unless memory runs out
  pub fold_completes : ¬ HearFails means old new → ¬ ShowFails means old new
      → Grows (EndsDone status) (means.log old) (means.log new)

-- `apply`, on files that stand for a stack
pub record Applies {S : Type 0} (means : Meanings S) (status : Status) (old new : S)
    : Type 0 where
  -- on a machine's: what was shown begins the answers to the lines heard, as of `fold`, from that
  -- machine on
  pub applies : (machine : Machine) → StandsFor means old (stack_of machine)
      → (status ≢ NotStore) × AnswersFeed means machine status old new
  -- what it leaves behind its first event is a run in turn, as `runs_follow_chains` counts them
  pub in_turn : (machine : Machine) → StandsFor means old (stack_of machine)
      → IsRunInTurn means old new
  -- the line at which memory ran out isn't carried out: what was shown is the answers to the lines
  -- before it, and whatever a crash leaves stands for these
  pub out_of_memory : (machine : Machine) → StandsFor means old (stack_of machine)
      → status ≡ Memory → StopsAtLine means machine old new
  -- on any: the same, with each line read on the stack, and `survives` likewise
  pub stack_feeds : (stack : Stack) → StandsFor means old stack
      → (status ≢ NotStore) × FeedsOn means stack status old new
  pub stack_survives : (stack : Stack) → StandsFor means old stack
      → SurvivesOn means stack old new
  pub stack_out_of_memory : (stack : Stack) → StandsFor means old stack
      → status ≡ Memory → StopsOn means stack old new
  -- where the log alone is told: some stack answers the lines
  pub applies_logged : status ≢ NotStore → FeedsSome means status old new
  pub apply_status : IsApplyStatus status
  pub apply_completes : (stack : Stack) → StandsFor means old stack
      → ¬ DiskFails means old new → ¬ HearFails means old new → ¬ ShowFails means old new
      → Grows (EndsDone status) (means.log old) (means.log new)

-- `init`
pub record Inits {S : Type 0} (means : Meanings S) (name : ProfileName) (depth : ℕ)
    (status : Status) (old new : S) : Type 0 where
  -- the line is shown, and only once each crash leaves the store
  pub inits : status ≢ NotEmpty → ShowsText means made_line status old new
  pub made : IsTrue (means.told old) → (status ≡ Done) ⊎ (status ≡ ShowFault)
      → IsMade means name depth new
  pub made_before : IsTrue (means.told old) → status ≢ NotEmpty
      → MakesFirst means name depth old new
  -- files that aren't both empty are refused, and spared whatever the status is
  pub refuses_files : IsTrue (means.told old) → means.seen old ≢ no_files → IsSparing status
  pub spares : IsTrue (means.told old) → means.seen old ≢ no_files → AddsNoImage means old new
  -- memory runs out before the first write, or not at all
  pub made_nothing : status ≡ Memory → AddsNoImage means old new
  pub init_status : IsInitStatus status
  pub init_completes : IsTrue (means.told old) → means.seen old ≡ no_files
      → ¬ DiskFails means old new → ¬ ShowFails means old new → IsDone status

-- `query`, on files that stand for a stack
pub record Queries {S : Type 0} (means : Meanings S) (path : List ℕ) (status : Status)
    (old new : S) : Type 0 where
  -- the body of the reply is shown, and nothing else
  pub queries : (stack : Stack) → StandsFor means old stack
      → (status ≢ NotStore) × ShowsText means (query_body path stack) status old new
  pub query_status : IsQueryStatus status
  pub query_completes : (stack : Stack) → StandsFor means old stack
      → ¬ DiskFails means old new → ¬ ShowFails means old new → IsDone status

-- `serve`, so many turns
pub record Serves {S : Type 0} (means : Meanings S) (turns : ℕ) (status : Status)
    (old new : S) : Type 0 where
  -- on files that stand for a machine's stack: each link is shown a front of its answers, each by
  -- fresh indexing of the blocks that the commands before it chose; all turns are made and counted,
  -- unless a fault ends them
  pub serves : (machine : Machine) → StandsFor means old (stack_of machine)
      → (status ≢ NotStore) × AnswersLinks means machine turns status old new
  -- whatever the links do and at whatever moment the run stops: the files stand for where the
  -- commands led, all of them or all but one; no byte was shown of an answer behind more
  pub serve_survives : (machine : Machine) → StandsFor means old (stack_of machine)
      → SurvivesServing means machine old new
  -- what it leaves behind its first event is a run in turn, as `all_runs_follow_chains` counts them
  pub serve_in_turn : (machine : Machine) → StandsFor means old (stack_of machine)
      → IsServedInTurn means old new
  -- on files that stand for any stack: the same, with each request read on the stack
  pub stack_serves : (stack : Stack) → StandsFor means old stack
      → (status ≢ NotStore) × ServesOn means stack turns status old new
  pub stack_serve_survives : (stack : Stack) → StandsFor means old stack
      → SurvivesServingOn means stack old new
  -- where the log alone is told: some stack answers the links
  pub serves_logged : status ≢ NotStore → ServesSome means turns status old new
  -- memory runs out before the first turn, or not at all
  pub serve_memory : status ≡ Memory → means.log new ≡ means.log old
  pub serve_status : IsServeStatus status
  pub serve_completes : (stack : Stack) → StandsFor means old stack
      → ¬ DiskFails means old new → ¬ DoorFails means old new → ¬ ShowFails means old new
      → IsDone status

-- any word that opens a store, on files that stand for no stack: the first test that fails is
-- shown, and nothing else, by `lead` and `follow` nothing at all; and the files are spared
pub record Unopened {S : Type 0} (means : Meanings S) (status : Status) (old new : S)
    : Type 0 where
  pub unopened : IsUnopened status
  pub unsaid : status ≢ NotStore → means.log new ≡ means.log old
  pub opens_nothing : AddsNoImage means old new

-- `lead`
pub record Leads {S : Type 0} (means : Meanings S) (status : Status) (old new : S)
    : Type 0 where
  -- on files that stand for a stack: what was shown begins the frames that answer the Haves heard,
  -- and is all of them where frames or the end of channel 0 ended the run, as the status says
  pub leads : (leader : Leader Stack) → StandsAsLeader means old leader
      → (status ≢ NotStore) × Talks means (leader_party leader) status old new
  -- on files that are no store, or have version 3: nothing is done
  pub lead_unopened : (misfit : Misfit) → StandsNowhere means old misfit
      → Unopened means status old new
  -- no line is shown where they stand for none
  pub lead_unsaid : status ≡ NotStore → means.log new ≡ means.log old
  pub lead_status : IsLeadStatus status
  -- without a fault, and where channel 0 ends, frames or that end do end the run, unless memory
  -- runs out
  pub lead_completes : (leader : Leader Stack) → StandsAsLeader means old leader
      → ¬ DiskFails means old new → ¬ HearFails means old new → ¬ ShowFails means old new
      → Grows (EndsTalk status) (means.log old) (means.log new)

-- `follow`
pub record Follows {S : Type 0} (means : Meanings S) (status : Status) (old new : S)
    : Type 0 where
  -- likewise, of a Have of where the files stand, and one of each place to which frames lead
  pub follows : (mine : Stood Stack) → StandsThere means old mine
      → (status ≢ NotStore) × Talks means (follower_party mine) status old new
  -- what it leaves behind its first event is a run in turn, as `followers_keep_to_leaders` counts
  -- them
  pub follow_in_turn : (mine : Stood Stack) → StandsThere means old mine
      → IsFollowInTurn means old new
  pub follow_unopened : (misfit : Misfit) → StandsNowhere means old misfit
      → Unopened means status old new
  pub follow_unsaid : status ≡ NotStore → means.log new ≡ means.log old
  pub follow_status : IsFollowStatus status
  pub follow_completes : (mine : Stood Stack) → StandsThere means old mine
      → ¬ DiskFails means old new → ¬ HearFails means old new → ¬ ShowFails means old new
      → Grows (EndsTalk status) (means.log old) (means.log new)

-- `grow`
pub record GrowsStore {S : Type 0} (means : Meanings S) (status : Status) (old new : S)
    : Type 0 where
  -- on files that stand for a stack at version 2, with a generation that another file can follow:
  -- the line is shown, and nothing is heard
  pub grows : (stack : Stack) → StandsForGrowing means old stack
      → (status ≢ NotStore) × ShowsText means grown_line status old new
  -- and only once the files are of version 3
  pub grown : (stack : Stack) → StandsForGrowing means old stack
      → (status ≡ Done) ⊎ (status ≡ ShowFault) → IsGrown means stack new
  -- whenever the run stops, the files stand for that stack
  pub grow_survives : (stack : Stack) → StandsForGrowing means old stack
      → GrowsFirst means stack old new
  -- what it leaves behind its first event is a run in turn, as `all_runs_follow_chains` counts them
  pub grow_in_turn : (stack : Stack) → StandsForGrowing means old stack
      → IsGrownInTurn means old new
  -- on files that stand for none so: the first test that fails is shown, and nothing else; and they
  -- are spared
  pub ungrown : (misfit : Misfit) → StandsForNoGrowing means old misfit
      → Unopened means status old new
  pub no_growing : status ≡ NotStore → SaysNoGrowing means old new
  pub grow_status : IsGrowStatus status
  pub grow_completes : (stack : Stack) → StandsForGrowing means old stack
      → ¬ DiskFails means old new → ¬ ShowFails means old new → IsDone status
