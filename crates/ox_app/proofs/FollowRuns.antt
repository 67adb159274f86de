-- Runs of followers one after the other keep to their leader.
use Rattle.std.proofs.Common.{◌≡◌, ◌∙◌, inl, inr, ℕ, List, [], ◌∷◌, take, Option, Some, None, refl, sym, ap, subst}
use Rattle.std.specs.Prelude.{All}
use Rattle.std.proofs.lemmas.List.Elements.{All-head, All-tail, All-take}
use Rattle.ox_outside.specs.Files.{Files}
use Rattle.ox_files.specs.Runs.{Run}
use Rattle.ox_follow.proofs.Following.{takes_judged, takes_of_sent}
use Rattle.ox_follow.specs.Frame.{Frame}
use Rattle.ox_follow.specs.Talk.{Ends, Judged, Stays, Takes, followed, judged, stands_by}
use Rattle.ox_follow.specs.World.{Event, Appends, Turns, Sends, Delivers, Reopens, IsIn, Rules, Stood, World, after, answer_to, appends, begun, delivers, frame_numbered, happened, sends, stood, took, turns}
use Rattle.ox_model.specs.Stack.{Stack}
use Rattle.ox_app.specs.Follow.{FollowInTurn, HearsSent, StandsWithLeader, SurvivesFrames, frames_heard, led_to}
use Rattle.ox_pieces.specs.Stood.{rules_of, stood_in}
use Rattle.ox_pieces.proofs.HeadsOfPieces.{body_rules, payload_rules}
use Rattle.ox_app.proofs.FrameTalks.{followed_how}

-- ---- the rules of what a leader has had

module _ (rules : Rules Stack) (leads : (a b : Stack) (payload : List ℕ) → rules.leads payload a ≡ Some b → rules_of b ≡ rules_of a) (first : Stack) (spells : (b : Stack) (body : List ℕ) → rules.spells body ≡ Some b → rules_of b ≡ rules_of first) where
  abbrev HaveRules : List (Stood Stack) → Type 0
  HaveRules [] = Unit {0}
  HaveRules (one ∷ others) = (rules_of one.state ≡ rules_of first) × HaveRules others

  record SameRules (world : World Stack) : Type 0 where
    now : rules_of world.leader.state ≡ rules_of first
    all : HaveRules world.history

  same_appended : (world : World Stack) (payload : List ℕ) (state : Option Stack) → rules.leads payload world.leader.state ≡ state → SameRules world → SameRules (appends world payload state)
  same_appended world payload None is same = same
  same_appended world payload (Some state) is same =
      let next : rules_of state ≡ rules_of first = leads world.leader.state state payload is ∙ same.now in
      record { now = next; all = (next, same.all) }

  same_turned : (world : World Stack) (body : List ℕ) (state : Option Stack) → rules.spells body ≡ state → SameRules world → SameRules (turns world body state)
  same_turned world body None is same = same
  same_turned world body (Some state) is same = let next : rules_of state ≡ rules_of first = spells state body is in record { now = next; all = (next, same.all) }

  same_sent : (world : World Stack) (frame : Option Frame) → SameRules world → SameRules (sends world frame)
  same_sent world None same = same
  same_sent world (Some frame) same = record { now = same.now; all = same.all }

  same_delivered : (world : World Stack) (frame : Option Frame) → SameRules world → SameRules (delivers rules world frame)
  same_delivered world None same = same
  same_delivered world (Some frame) same = record { now = same.now; all = same.all }

  same_on : (world : World Stack) (event : Event) → SameRules world → SameRules (happened rules world event)
  same_on world (Appends payload) same = same_appended world payload _ refl same
  same_on world (Turns body) same = same_turned world body _ refl same
  same_on world (Sends at) same = same_sent world (answer_to rules world.leader at) same
  same_on world (Delivers number) same = same_delivered world (frame_numbered number world.sent) same
  same_on world Reopens same = same

  same_after : (world : World Stack) (events : List Event) → SameRules world → SameRules (after rules world events)
  unfolding after
  same_after world [] same = same
  same_after world (event ∷ events) same = same_after (happened rules world event) events (same_on world event same)

  pub rules_had : (history : List (Stood Stack)) → HaveRules history → (mine : Stood Stack) → IsIn mine history → rules_of mine.state ≡ rules_of first
  rules_had [] have mine had = absurd had
  rules_had (one ∷ others) have mine (inl is) = ap (λ (s : Stood Stack). rules_of s.state) is ∙ have.0
  rules_had (one ∷ others) have mine (inr had) = rules_had others have.1 mine had

-- what a leader that began with this stack has had
had_rules : (generation : ℕ) (body : List ℕ) (stack : Stack) (events : List Event) (mine : Stood Stack) → IsIn mine (after (rules_of stack) (begun generation body stack) events).history → rules_of mine.state ≡ rules_of stack
had_rules generation body stack events mine had =
    let rules = rules_of stack in
    let leads : (a b : Stack) (payload : List ℕ) → rules.leads payload a ≡ Some b → rules_of b ≡ rules_of a = λ a b payload is. payload_rules a b payload is in
    let spells : (b : Stack) (text : List ℕ) → rules.spells text ≡ Some b → rules_of b ≡ rules_of stack = λ b text is. body_rules stack b text is in
    let world = after rules (begun generation body stack) events in
    let same : SameRules rules leads stack spells world = same_after rules leads stack spells (begun generation body stack) events (record { now = refl; all = (refl, tt) }) in
    rules_had rules leads stack spells world.history same.all mine had

-- ---- frames that were sent lead from place to place

module _ (rules : Rules Stack) (history : List (Stood Stack)) (sent : List Frame) (takes : (mine : Stood Stack) (frame : Frame) → IsIn mine history → IsIn frame sent → IsIn (took rules mine frame) history) where
  abbrev IsSent : Frame → Type 0
  IsSent frame = IsIn frame sent

  -- a frame that is judged so
  led_one : (mine : Stood Stack) (frames : List Frame) (how : Judged Stack) → IsIn mine history → IsIn (stands_by mine how) history
      → ((next : Stood Stack) → IsIn next history → IsIn (followed rules next frames).now history) → IsIn (followed_how rules mine frames how).now history
  led_one mine frames Stays had took_there go = go mine had
  led_one mine frames (Takes next) had took_there go = go next took_there
  led_one mine frames (Ends end) had took_there go = had

  led_frames : (mine : Stood Stack) (frames : List Frame) → IsIn mine history → All IsSent frames → IsIn (followed rules mine frames).now history
  unfolding followed
  led_frames mine [] had all = had
  led_frames mine (frame ∷ frames) had all =
      led_one mine frames (judged rules mine frame) had
      (subst (λ (s : Stood Stack). IsIn s history) (takes_judged rules mine frame) (takes mine frame had (All-head IsSent frame frames all)))
      (λ next there. led_frames next frames there (All-tail IsSent frame frames all))

-- ---- runs

module _ (generation : ℕ) (body : List ℕ) (stack : Stack) (events : List Event) (spelled : (rules_of stack).spells body ≡ Some stack) where
  abbrev World' : World Stack
  World' = after (rules_of stack) (begun generation body stack) events

  -- where a run leaves its files the leader once stood, if it did where they stood before
  run_keeps : (mine : Stood Stack) (run : Run) → IsIn mine World'.history → HearsSent World' run → SurvivesFrames mine run.events run.left
      → (next : Stood Stack) × (stood_in run.left ≡ Some next) × IsIn next World'.history
  run_keeps mine run had sent survives = (
    led_to mine survives.kept run.events,
    survives.stands_for,
    subst (λ (r : Rules Stack). IsIn (followed r mine (take survives.kept (frames_heard run.events))).now World'.history) (sym (had_rules generation body stack events mine had))
        (led_frames (rules_of stack) World'.history World'.sent (λ m f. takes_of_sent (rules_of stack) generation body stack events spelled m f) mine (take survives.kept (frames_heard run.events)) had
        (All-take (λ f. IsIn f World'.sent) survives.kept (frames_heard run.events) sent)),
  )

  pub runs_keep : (files : Files) (first : Stood Stack) (runs : List Run) → stood_in files ≡ Some first → IsIn first World'.history → All (HearsSent World') runs → FollowInTurn files runs
      → StandsWithLeader World' files runs
  runs_keep files first [] stood had sent turns = record { last = first; stands_for = stood; once = had }
  runs_keep files first (run ∷ runs) stood had sent in_turn =
      let next = run_keeps first run had (All-head (HearsSent World') run runs sent) (in_turn.0 first stood) in
      let last = runs_keep run.left next.0 runs next.1 next.2 (All-tail (HearsSent World') run runs sent) in_turn.1 in
      record { last = last.last; stands_for = last.stands_for; once = last.once }
