-- What survives of a log with one event more, whether the files stand for the state before it or behind it.
use Rattle.std.proofs.Common.{◌≡◌, ◌∙◌, ◌≤◌, ◌==◌, ℕ, zero, suc, ◌+◌, Bool, true, false, List, [], ◌∷◌, ◌++◌, length, take, drop, Option, Some, None, if◌then◌else◌, refl, sym, ap, subst, arith, inl, inr, ◌⊎◌}
use Rattle.std.specs.Prelude.{unwrap_or, map, is_some}
use Rattle.std.specs.List.{cons_option}
use Rattle.std.proofs.lemmas.Bool.{eqb-true}
use Rattle.std.proofs.lemmas.Slice.Eq.{bytes_eq-Decides}
use Rattle.std.proofs.lemmas.List.{take-append-le, take_all}
use Rattle.std.proofs.lemmas.List.Elements.{filter_map-append}
use Rattle.ox_outside.specs.Event.{Event, Opened, Heard, Ended, Showed, Broke, GaveUp, Shut, channel_of, shown_bytes}
use Rattle.ox_outside.specs.Files.{Files}
use Rattle.ox_outside.specs.Shown.{IsFrontOf, acknowledgements}
use Rattle.ox_http.specs.Talk.{Message}
use Rattle.ox_links.specs.Link.{Answer, all_shown, answers_to, is_to, reply_bytes}
use Rattle.ox_links.specs.Serving.{Server, Serving, answer_of, answer_at, with_answer, with_event, after_event, serve_on, served_by, start_at, gives_up, next_state, one_if, commands_in, state_after}
use Rattle.ox_links.specs.Survives.{Survives, acknowledged_to}
use Rattle.ox_links.proofs.Answered.{asked_is}
use Rattle.ox_links.proofs.Apart.{answers_to-own, answers_to-other}
use Rattle.ox_links.proofs.Each.{AllOf, all_from, all_more}
use Rattle.ox_links.proofs.GoingOn.{serve_on-append, past_is}
use Rattle.ox_links.proofs.Moments.{at_event, IsGivingUp, IsMoment}
use Rattle.ox_links.proofs.States.{Leads, serve_on_leads, start_leads}
use Rattle.ox_turns.specs.Turn.{ShowsFronts}

all_weaker : {A : Type 0} (f : A → ℕ) (n k : ℕ) (list : List A) → n ≤ k → AllOf (λ (a : A). f a ≤ n) list → AllOf (λ (a : A). f a ≤ k) list
all_weaker f n k [] le all = tt
all_weaker f n k (a ∷ list) le all = (omega (arith, all.0, le), all_weaker f n k list le all.1)

all_take : {A : Type 0} (P : A → Type 0) (n : ℕ) (list : List A) → AllOf P list → AllOf P (take n list)
all_take P zero list all = tt
all_take P (suc n) [] all = tt
all_take P (suc n) (a ∷ list) all = (all.0, all_take P n list all.1)

all_own : {C : Type 0} (P : Answer C → Type 0) (c : ℕ) (answers : List (Answer C)) → AllOf P answers → AllOf P (answers_to c answers)
all_own P c [] all = tt
all_own {C = C} P c (a ∷ answers) all = by (is_to c a) (all_own P c answers all.1)
  where
    by : (b : Bool) → AllOf P (answers_to c answers) → AllOf P (if b then a ∷ answers_to c answers else answers_to c answers)
    by true rest = (all.0, rest)
    by false rest = rest

-- with all answers shown and no more, no byte is shown of later ones
drop_front : (x y : List ℕ) → drop (length x) (x ++ y) ≡ y
drop_front [] y = refl
drop_front (b ∷ x) y = drop_front x y

no_more_acknowledged : {C : Type 0} (own more : List (Answer C)) → acknowledgements (map (λ (a : Answer C). a.reply.bytes) (own ++ more)) (reply_bytes own) ≤ length own
unfolding acknowledgements
no_more_acknowledged [] [] = omega arith
no_more_acknowledged [] (a ∷ more) = omega arith
no_more_acknowledged {C = C} (a ∷ own) more = by a.reply.bytes (reply_bytes own) (map (λ (x : Answer C). x.reply.bytes) (own ++ more)) (no_more_acknowledged own more)
  where
    by : (x rest : List ℕ) (replies : List (List ℕ)) → acknowledgements replies rest ≤ length own → acknowledgements (x ∷ replies) (x ++ rest) ≤ suc (length own)
    by [] [] replies le = omega arith
    by [] (b ∷ rest) replies le = omega (arith, le)
    by (b ∷ x) rest replies le =
        let e : acknowledgements ((b ∷ x) ∷ replies) ((b ∷ x) ++ rest) ≡ suc (acknowledgements replies rest) = ap (λ (l : List ℕ). suc (acknowledgements replies l)) (drop_front (b ∷ x) rest) in
        omega (arith, e, le)

-- an answer that is counted behind so many commands
abbrev Counted : {C : Type 0} → ℕ → Option (Answer C) → Type 0
Counted n None = Unit {0}
Counted n (Some x) = x.commands ≡ n + one_if (is_some x.command)

-- one event that gives nothing up goes on from the run before it
pub gives_none_up : (event : Event) → (IsGivingUp event → ⊥) → (channel : ℕ) → gives_up channel (event ∷ []) ≡ false
gives_none_up (GaveUp c) goes_on channel = absurd (goes_on tt)
gives_none_up (Opened c door) goes_on channel = same (c == channel)
  where
    same : (b : Bool) → (if b then false else false) ≡ false
    same true = refl
    same false = refl
gives_none_up (Heard c bytes) goes_on channel = same (c == channel)
  where
    same : (b : Bool) → (if b then false else false) ≡ false
    same true = refl
    same false = refl
gives_none_up (Ended c) goes_on channel = same (c == channel)
  where
    same : (b : Bool) → (if b then false else false) ≡ false
    same true = refl
    same false = refl
gives_none_up (Showed c bytes) goes_on channel = same (c == channel)
  where
    same : (b : Bool) → (if b then false else false) ≡ false
    same true = refl
    same false = refl
gives_none_up (Broke c) goes_on channel = same (c == channel)
  where
    same : (b : Bool) → (if b then false else false) ≡ false
    same true = refl
    same false = refl
gives_none_up (Shut c) goes_on channel = same (c == channel)
  where
    same : (b : Bool) → (if b then false else false) ≡ false
    same true = refl
    same false = refl

module _ {X C : Type 0} (server : Server X C) (first : X) where
  abbrev AtMost : ℕ → Answer C → Type 0
  AtMost n a = a.commands ≤ n

  below_after : (run : Serving X C) (event : Event) (rest : List Event) → AllOf (AtMost run.commands) run.answers → AllOf (AtMost (after_event server run event rest).commands) (after_event server run event rest).answers
  below_after run event rest below =
      at_event server now event rest (λ (o : Option (Answer C)). AllOf (AtMost (with_answer server now o).commands) (with_answer server now o).answers)
      (λ up. below) (λ quiet. below) (λ m moment.
      let a = answer_of server now (channel_of event) m in
      all_more (AtMost a.commands) run.answers a (all_weaker (λ (b : Answer C). b.commands) run.commands a.commands run.answers (omega arith) below) (omega arith))
    where
      now : Serving X C
      now = with_event run event

  below_on : (run : Serving X C) (log : List Event) → AllOf (AtMost run.commands) run.answers → AllOf (AtMost (serve_on server run log).commands) (serve_on server run log).answers
  below_on run [] below = below
  below_on run (event ∷ log) below = below_on (after_event server run event log) log (below_after run event log below)

  below : (log : List Event) → AllOf (AtMost (served_by server first log).commands) (served_by server first log).answers
  below log = below_on (start_at first) log tt

  leads : (log : List Event) → Leads server first (served_by server first log)
  leads log = serve_on_leads server first (start_at first) log (start_leads server first)

  pub past_of : (log : List Event) → (served_by server first log).past ≡ log
  past_of log = past_is server (start_at first) log

  pub one_more_event : (log : List Event) (event : Event) → (IsGivingUp event → ⊥) → served_by server first (log ++ event ∷ []) ≡ after_event server (served_by server first log) event []
  one_more_event log event goes_on = serve_on-append server (start_at first) log (event ∷ []) (gives_none_up event goes_on)

  pub fronts_of : (log : List Event) → ShowsFronts (served_by server first log) → (channel : ℕ) → 1 ≤ channel
      → IsFrontOf (shown_bytes channel log) (reply_bytes (answers_to channel (served_by server first log).answers))
  fronts_of log fronts channel one = subst (λ (l : List Event). IsFrontOf (shown_bytes channel l) (reply_bytes (answers_to channel (served_by server first log).answers))) (past_of log) (fronts channel one)

  module _ (stands : Files → X → Type 0) (files : Files) where
    -- files stand for the state of the log
    pub settled : (log : List Event) → ShowsFronts (served_by server first log) → stands files (served_by server first log).state → Survives server first stands log files
    settled log fronts is =
        let run = served_by server first log in
        let led = (leads log).all in
        record {
          kept = run.commands;
          stands_for = subst (stands files) (led.state ∙ ap (state_after server first) (sym (take_all run.commands (commands_in run.answers) (omega (arith, led.many))))) is;
          counted = inl refl;
          acknowledged = λ channel. all_from (AtMost run.commands) (acknowledged_to channel log run.answers)
              (all_take (AtMost run.commands) _ (answers_to channel run.answers) (all_own (AtMost run.commands) channel run.answers (below log)));
          shown = fronts_of log fronts;
        }

    -- Files stand for the state before the last answer of a log, of which nothing is shown.
    behind : (log : List Event) (before : List Event) (event : Event) (a : Answer C) (command : C)
        → log ≡ before ++ event ∷ []
        → (served_by server first log).answers ≡ (served_by server first before).answers ++ a ∷ []
        → (served_by server first log).commands ≡ suc (served_by server first before).commands
        → a.channel ≡ channel_of event
        → all_shown (channel_of event) log (served_by server first before).answers ≡ true
        → ShowsFronts (served_by server first log) → a.command ≡ Some command
        → stands files (served_by server first before).state → Survives server first stands log files
    behind log before event a command logged answers commands own all fronts is stood =
        let run = served_by server first log in
        let old = served_by server first before in
        let led = (leads before).all in
        let more : commands_in run.answers ≡ commands_in old.answers ++ cons_option a.command [] = ap commands_in answers ∙ filter_map-append (λ (x : Answer C). x.command) old.answers (a ∷ []) in
        let front : take old.commands (commands_in run.answers) ≡ commands_in old.answers
        = ap (take old.commands) more ∙ take-append-le old.commands (commands_in old.answers) (cons_option a.command []) (omega (arith, led.many)) ∙ take_all old.commands (commands_in old.answers) (omega (arith, led.many)) in
        record {
          kept = old.commands;
          stands_for = subst (stands files) (led.state ∙ ap (state_after server first) (sym front)) stood;
          counted = inr commands;
          acknowledged = λ channel. all_from (AtMost old.commands) (acknowledged_to channel log run.answers) (acked channel (a.channel == channel) refl);
          shown = fronts_of log fronts;
        }
      where
        run : Serving X C
        run = served_by server first log

        old : Serving X C
        old = served_by server first before

        old_ones : (channel n : ℕ) → AllOf (AtMost old.commands) (take n (answers_to channel old.answers))
        old_ones channel n = all_take (AtMost old.commands) n (answers_to channel old.answers) (all_own (AtMost old.commands) channel old.answers (below before))

        acked : (channel : ℕ) (b : Bool) → (a.channel == channel) ≡ b → AllOf (AtMost old.commands) (acknowledged_to channel log run.answers)
        acked channel false other =
            let same : answers_to channel run.answers ≡ answers_to channel old.answers = ap (answers_to channel) answers ∙ answers_to-other channel old.answers a other in
            subst (λ (l : List (Answer C)). AllOf (AtMost old.commands) (take (acknowledgements (map (λ (x : Answer C). x.reply.bytes) l) (shown_bytes channel log)) l)) (sym same) (old_ones channel _)
        acked channel true mine =
            let same : answers_to channel run.answers ≡ answers_to channel old.answers ++ a ∷ [] = ap (answers_to channel) answers ∙ answers_to-own channel old.answers a mine in
            let c : channel_of event ≡ channel = sym own ∙ eqb-true a.channel channel mine in
            let shown : reply_bytes (answers_to channel old.answers) ≡ shown_bytes channel log = (bytes_eq-Decides _ _).0 (subst (λ (k : ℕ). all_shown k log old.answers ≡ true) c all) in
            let count = no_more_acknowledged (answers_to channel old.answers) (a ∷ []) in
            let count : acknowledgements (map (λ (x : Answer C). x.reply.bytes) (answers_to channel old.answers ++ a ∷ [])) (shown_bytes channel log) ≤ length (answers_to channel old.answers)
            = subst (λ (l : List ℕ). acknowledgements (map (λ (x : Answer C). x.reply.bytes) (answers_to channel old.answers ++ a ∷ [])) l ≤ length (answers_to channel old.answers)) shown count in
            subst (λ (l : List (Answer C)). AllOf (AtMost old.commands) (take (acknowledgements (map (λ (x : Answer C). x.reply.bytes) l) (shown_bytes channel log)) l)) (sym same)
            (subst (AllOf (AtMost old.commands)) (sym (take-append-le _ (answers_to channel old.answers) (a ∷ []) count)) (old_ones channel _))

    -- one event more, and files stand for the state before it or behind it
    pub one_step : (log : List Event) (event : Event) → (IsGivingUp event → ⊥) → ShowsFronts (served_by server first (log ++ event ∷ []))
        → (stands files (served_by server first log).state ⊎ stands files (served_by server first (log ++ event ∷ [])).state)
        → Survives server first stands (log ++ event ∷ []) files
    one_step log event goes_on fronts (inr new) = settled (log ++ event ∷ []) fronts new
    one_step log event goes_on fronts (inl stood) =
        by (answer_at server now event []) refl
      where
        old : Serving X C
        old = served_by server first log

        now : Serving X C
        now = with_event old event

        next : (o : Option (Answer C)) → answer_at server now event [] ≡ o → served_by server first (log ++ event ∷ []) ≡ with_answer server now o
        next o is = one_more_event log event goes_on ∙ ap (λ (x : Option (Answer C)). with_answer server now x) is

        shown_before : (a : Answer C) → answer_at server now event [] ≡ Some a → (a.channel ≡ channel_of event) × (all_shown (channel_of event) (log ++ event ∷ []) old.answers ≡ true) × (a.commands ≡ old.commands + one_if (is_some a.command))
        shown_before a = at_event server now event [] (λ (o : Option (Answer C)). o ≡ Some a → (a.channel ≡ channel_of event) × (all_shown (channel_of event) (log ++ event ∷ []) old.answers ≡ true) × (a.commands ≡ old.commands + one_if (is_some a.command)))
            (λ up is. absurd (cc is)) (λ quiet is. absurd (cc is)) moment
          where
            moment : (m : Option Message) → IsMoment server now event [] m → Some (answer_of server now (channel_of event) m) ≡ Some a → (a.channel ≡ channel_of event) × (all_shown (channel_of event) (log ++ event ∷ []) old.answers ≡ true) × (a.commands ≡ old.commands + one_if (is_some a.command))
            moment None given is = absurd (goes_on given)
            moment (Some m) given is = (
              ap (λ (o : Option (Answer C)). channel_in o) (sym is),
              ap (λ (l : List Event). all_shown (channel_of event) (l ++ event ∷ []) old.answers) (sym (past_of log)) ∙ (asked_is (all_shown (channel_of event) now.past now.answers) _ _ m given.1).0,
              subst (λ (o : Option (Answer C)). Counted old.commands o) is refl,
            )
              where
                channel_in : Option (Answer C) → ℕ
                channel_in None = 0
                channel_in (Some x) = x.channel

        same_state : (o : Option (Answer C)) → answer_at server now event [] ≡ o → (with_answer server now o).state ≡ old.state → Survives server first stands (log ++ event ∷ []) files
        same_state o is same = settled (log ++ event ∷ []) fronts (subst (stands files) (sym (ap (λ (r : Serving X C). r.state) (next o is) ∙ same)) stood)

        with_command : (a : Answer C) → answer_at server now event [] ≡ Some a → (command : Option C) → a.command ≡ command → Survives server first stands (log ++ event ∷ []) files
        with_command a is None none = same_state (Some a) is (ap (λ (k : Option C). unwrap_or (next_state server old.state k) old.state) none)
        with_command a is (Some command) some =
            let before = shown_before a is in
            let count : a.commands ≡ suc old.commands = before.2 ∙ ap (λ (k : Option C). old.commands + one_if (is_some k)) some ∙ (let e : old.commands + 1 ≡ suc old.commands = omega arith in e) in
            behind (log ++ event ∷ []) log event a command refl
            (ap (λ (r : Serving X C). r.answers) (next (Some a) is)) (ap (λ (r : Serving X C). r.commands) (next (Some a) is) ∙ count) before.0 before.1 fronts some stood

        by : (o : Option (Answer C)) → answer_at server now event [] ≡ o → Survives server first stands (log ++ event ∷ []) files
        by None is = same_state None is refl
        by (Some a) is = with_command a is a.command refl
