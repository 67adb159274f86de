-- What a run carries along is fresh indexing of the machine's blocks.
use Rattle.std.proofs.Common.{◌≡◌, ◌≢◌, ◌∙◌, ◌⊎◌, ◌≤◌, inl, inr, ℕ, suc, Bool, true, false, List, [], ◌∷◌, take, Option, Some, refl, sym, ap, subst}
use Rattle.std.specs.Prelude.{Result, Ok}
use Rattle.std.specs.List.{concat}
use Rattle.ox_outside.specs.Event.{Event, has_ended}
use Rattle.ox_outside.specs.Files.{Files}
use Rattle.ox_outside.specs.declared.site.Site.{Ghosts as Meanings}
use Rattle.ox_outside.specs.Log.{Grows}
use Rattle.ox_outside.proofs.Log.{grows_weaker}
use Rattle.ox_feed.specs.Feed.{FeedLine}
use Rattle.ox_model.specs.Machine.{Machine, stack_of}
use Rattle.ox_files.specs.Moments.{acknowledgements_in, count, lines_in}
use Rattle.ox_files.specs.Runs.{SurvivesFrom}
use Rattle.ox_files.specs.Stands.{Misfit, stands}
use Rattle.ox_model.specs.Replies.{after_on, replies, replies_on}
use Rattle.ox_model.specs.Stack.{Stack}
use Rattle.ox_sat.specs.Profiles.{profile_word}
use Rattle.ox_model.proofs.AnswersOfStacks.{after_alike, replies_alike}
use Rattle.ox_sat.specs.declared.profiles.ProfileName.{ProfileName}
use Rattle.ox_sat.specs.declared.profiles.ProfileName.TheVariants.{Mainnet, Regtest, Lab}
use Rattle.ox_store.specs.Make.{made_stack}
use Rattle.ox_app.specs.declared.status.Status.{Status}
use Rattle.ox_app.specs.declared.status.Status.TheVariants.{DiskFault, HearFault, NotStore, ShowFault}
use Rattle.ox_app.proofs.OtherWords.{apart}
use Rattle.ox_app.proofs.Subcommands.{same_depth}
use Rattle.ox_outside.proofs.Calls.{leaves_weaker}
use Rattle.ox_app.specs.Headline.{IsRunInTurn, Leaves, RunsFeed, StopsBefore, Survives, stack_after}
use Rattle.ox_outside.specs.Runs.{LeavesOnly}
use Rattle.ox_app.specs.Show.{EndsDone}
use Rattle.ox_app.specs.Status.{IsApplyStatus}
use Rattle.ox_app.specs.Subcommands.{IsDepth, fold_words, init_words}

same_answers : (machine : Machine) (lines : List FeedLine) → concat (replies_on (stack_of machine) lines) ≡ concat (replies machine lines)
same_answers machine lines = ap (λ (l : List (List ℕ)). concat l) (sym (replies_alike machine lines))

runs_alike : (machine : Machine) (status : Status) (events : List Event) → RunsFeed (replies_on (stack_of machine)) status events → RunsFeed (replies machine) status events
runs_alike machine status events runs = record {
  only = runs.only;
  shown = (runs.shown.0, runs.shown.1 ∙ same_answers machine (lines_in events));
  whole = λ e. ((runs.whole e).0 ∙ same_answers machine (lines_in events), (runs.whole e).1);
  within = runs.within;
  too_much = runs.too_much;
}

pub grows_alike : (machine : Machine) (status : Status) (first now : Option (List Event)) → Grows (RunsFeed (replies_on (stack_of machine)) status) first now → Grows (RunsFeed (replies machine) status) first now
grows_alike machine status first now = grows_weaker (RunsFeed (replies_on (stack_of machine)) status) (RunsFeed (replies machine) status) first now (runs_alike machine status)

survives_alike : (machine : Machine) (events : List Event) (files : Files) → Survives (replies_on (stack_of machine)) (after_on (stack_of machine)) events files
    → Survives (replies machine) (stack_after machine) events files
survives_alike machine events files survives =
    let same = sym (replies_alike machine (lines_in events)) in
    record {
      kept = survives.kept;
      shown = (survives.shown.0, survives.shown.1 ∙ same_answers machine (take survives.kept (lines_in events)));
      counted = subst (λ (l : List (List ℕ)). (count l events ≡ survives.kept) ⊎ (count l events ≡ suc survives.kept)) same survives.counted;
      acknowledged = subst (λ (l : List (List ℕ)). acknowledgements_in l events ≤ survives.kept) same survives.acknowledged;
      stands_for = survives.stands_for ∙ ap (λ (s : Stack). Ok s) (sym (after_alike machine (take survives.kept (lines_in events))));
    }

module _ {S : Type 0} (means : Meanings S) where
  leaves_by_events : (machine : Machine) (old : S) (files : Files) (events : List Event) → Leaves means.may_leave old (replies_on (stack_of machine)) (after_on (stack_of machine)) files events
      → Leaves means.may_leave old (replies machine) (stack_after machine) files events
  leaves_by_events machine old files [] (inl before) = inl before
  leaves_by_events machine old files [] (inr stood) = inr (stood ∙ ap (λ (s : Stack). Ok s) (sym (after_alike machine [])))
  leaves_by_events machine old files (event ∷ events) survives = survives_alike machine (event ∷ events) files survives

  pub leaves_alike : (machine : Machine) (old new : S)
      → LeavesOnly means old new (λ r. Grows (Leaves means.may_leave old (replies_on (stack_of machine)) (after_on (stack_of machine)) r.files) (means.log old) (Some r.log))
      → LeavesOnly means old new (λ r. Grows (Leaves means.may_leave old (replies machine) (stack_after machine) r.files) (means.log old) (Some r.log))
  leaves_alike machine old new =
      leaves_weaker means old new _ _ (λ r.
      grows_weaker (Leaves means.may_leave old (replies_on (stack_of machine)) (after_on (stack_of machine)) r.files) (Leaves means.may_leave old (replies machine) (stack_after machine) r.files) (means.log old) (Some r.log)
      (leaves_by_events machine old r.files))

same_standing : (standing : Result Stack Misfit) (a b : Stack) → standing ≡ Ok a → standing ≡ Ok b → a ≡ b
same_standing standing a b e f = cc (sym e ∙ f)

module _ {S : Type 0} (means : Meanings S) where
  -- whatever machine the files stand for that a run opens, its stack is the same
  in_turn_by_events : (machine : Machine) (old : S) (files : Files) (events : List Event) → stands (means.seen old) ≡ Ok (stack_of machine)
      → Leaves means.may_leave old (replies_on (stack_of machine)) (after_on (stack_of machine)) files events → events ≢ [] → SurvivesFrom (means.seen old) (record { events = events; left = files })
  in_turn_by_events machine old files [] stood leaves some = absurd (some refl)
  in_turn_by_events machine old files (event ∷ events) stood survives some = λ other stood_other.
      survives_alike other (event ∷ events) files
      (subst (λ (s : Stack). Survives (replies_on s) (after_on s) (event ∷ events) files) (same_standing (stands (means.seen old)) (stack_of machine) (stack_of other) stood stood_other) survives)

  pub runs_in_turn : (machine : Machine) (old new : S) → stands (means.seen old) ≡ Ok (stack_of machine)
      → LeavesOnly means old new (λ r. Grows (Leaves means.may_leave old (replies_on (stack_of machine)) (after_on (stack_of machine)) r.files) (means.log old) (Some r.log))
      → IsRunInTurn means old new
  runs_in_turn machine old new stood =
      leaves_weaker means old new _ _ (λ r.
      grows_weaker (Leaves means.may_leave old (replies_on (stack_of machine)) (after_on (stack_of machine)) r.files) (λ events. events ≢ [] → SurvivesFrom (means.seen old) (record { events = events; left = r.files })) (means.log old) (Some r.log)
      (λ events leaves. in_turn_by_events machine old r.files events stood leaves))

-- a run that stops before a line
stops_alike : (machine : Machine) (events : List Event) (files : Files) → StopsBefore (replies_on (stack_of machine)) (after_on (stack_of machine)) files events
    → StopsBefore (replies machine) (stack_after machine) files events
stops_alike machine events files stops =
    let same = sym (replies_alike machine (lines_in events)) in
    record {
      kept = stops.kept;
      counted = subst (λ (l : List (List ℕ)). (count l events ≡ stops.kept) ⊎ (count l events ≡ suc stops.kept)) same stops.counted;
      shown = stops.shown ∙ same_answers machine (take stops.kept (lines_in events));
      stands_for = stops.stands_for ∙ ap (λ (s : Stack). Ok s) (sym (after_alike machine (take stops.kept (lines_in events))));
    }

pub grows_stops_alike : (machine : Machine) (files : Files) (first now : Option (List Event)) → Grows (StopsBefore (replies_on (stack_of machine)) (after_on (stack_of machine)) files) first now
    → Grows (StopsBefore (replies machine) (stack_after machine) files) first now
grows_stops_alike machine files first now =
    grows_weaker (StopsBefore (replies_on (stack_of machine)) (after_on (stack_of machine)) files) (StopsBefore (replies machine) (stack_after machine) files) first now
    (λ events stops. stops_alike machine events files stops)

-- ---- words

same_word : (a b : ProfileName) → profile_word a ≡ profile_word b → a ≡ b
same_word Mainnet Mainnet is = refl
same_word Mainnet Regtest is = absurd (apart (profile_word Mainnet) (profile_word Regtest) refl is)
same_word Mainnet Lab is = absurd (apart (profile_word Mainnet) (profile_word Lab) refl is)
same_word Regtest Mainnet is = absurd (apart (profile_word Regtest) (profile_word Mainnet) refl is)
same_word Regtest Regtest is = refl
same_word Regtest Lab is = absurd (apart (profile_word Regtest) (profile_word Lab) refl is)
same_word Lab Mainnet is = absurd (apart (profile_word Lab) (profile_word Mainnet) refl is)
same_word Lab Regtest is = absurd (apart (profile_word Lab) (profile_word Regtest) refl is)
same_word Lab Lab is = refl

second_of : (x a b : List ℕ) → x ∷ a ∷ [] ≡ x ∷ b ∷ [] → a ≡ b
second_of x a b is = cc is

third_of : (x a b c d : List ℕ) → x ∷ a ∷ c ∷ [] ≡ x ∷ b ∷ d ∷ [] → (a ≡ b) × (c ≡ d)
third_of x a b c d is = (cc is, cc is)

pub fold_same : (a b : ProfileName) → fold_words a ≡ fold_words b → a ≡ b
fold_same a b is = same_word a b (second_of _ _ _ is)

pub init_same : (a b : ProfileName) (m n : ℕ) → IsDepth m → IsDepth n → init_words a m ≡ init_words b n → (a ≡ b) × (m ≡ n)
init_same a b m n p q is =
    let parts = third_of _ _ _ _ _ is in
    (same_word a b parts.0, same_depth m n p q parts.1)

pub made_same : (a b : ProfileName) (m n : ℕ) → a ≡ b → m ≡ n → made_stack a m ≡ made_stack b n
made_same a b m n e f = rw (e, f) refl

-- ---- a run without a fault

contradicts : (b : Bool) → b ≡ true → b ≡ false → ⊥
contradicts b e f = cc

-- without a fault a run over a feed that ends is whole, or memory ran out
pub ends_done : (answers : List FeedLine → List (List ℕ)) (status : Status) (disk hear show : Type 0) (events : List Event) → IsApplyStatus status → (status ≡ NotStore → ⊥)
    → (status ≡ DiskFault → disk) → (status ≡ HearFault → hear) → (status ≡ ShowFault → show) → (disk → ⊥) → (hear → ⊥) → (show → ⊥) → RunsFeed answers status events → EndsDone status events
ends_done answers status disk hear show events (inl is) opened four five six no_disk no_hear no_show runs ends = inl is
ends_done answers status disk hear show events (inr (inl is)) opened four five six no_disk no_hear no_show runs ends = absurd (opened is)
ends_done answers status disk hear show events (inr (inr (inl is))) opened four five six no_disk no_hear no_show runs ends = absurd (no_disk (four is))
ends_done answers status disk hear show events (inr (inr (inr (inl is)))) opened four five six no_disk no_hear no_show runs ends = absurd (no_hear (five is))
ends_done answers status disk hear show events (inr (inr (inr (inr (inl is))))) opened four five six no_disk no_hear no_show runs ends = absurd (no_show (six is))
ends_done answers status disk hear show events (inr (inr (inr (inr (inr (inl is)))))) opened four five six no_disk no_hear no_show runs ends = inr is
ends_done answers status disk hear show events (inr (inr (inr (inr (inr (inr is)))))) opened four five six no_disk no_hear no_show runs ends =
    let limit = runs.too_much is in
    absurd (contradicts (has_ended 0 events) (ends limit.0) limit.1)
