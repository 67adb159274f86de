-- A run over a feed goes on: which lines are done, what was shown of their answers, and what is still to come.
use Rattle.std.proofs.Common.{◌≡◌, ◌∙◌, ℕ, ◌≤◌, ◌||◌, Bool, true, false, List, [], ◌∷◌, ◌++◌, length, refl, sym, ap, arith, append_assoc, length-append}
use Rattle.std.specs.Prelude.{All, IsTrue, Option, Some, None, Ok, Err}
use Rattle.std.specs.List.{concat}
use Rattle.std.proofs.lemmas.Bool.{eqb-true}
use Rattle.std.proofs.lemmas.List.{append-nil}
use Rattle.std.proofs.lemmas.List.Elements.{All-append, All-cons, All-head, All-nil, All-tail}
use Rattle.ox_outside.specs.Event.{Event, Opened, Heard, Ended, Showed, Broke, GaveUp, Shut, channel_of, has_ended, heard_bytes, shown_bytes}
use Rattle.ox_outside.specs.Log.{Grows}
use Rattle.ox_outside.proofs.Event.{heard_bytes-append, shown_bytes-append, has_ended-append}
use Rattle.ox_outside.proofs.Log.{grows_none, grows_then}
use Rattle.ox_feed.specs.Feed.{Answers, Feed, FeedLine, text, too_long, Hears, IsDone, IsTooMuch, Listens, MayCome, OnlyHears, feed_limit, is_hearing, lines_from, lines_of, new_feed}
use Rattle.ox_feed.specs.declared.lines.Line.{Line}
use Rattle.ox_feed.specs.declared.lines.Line.TheVariants.{Text, Long, End}
use Rattle.ox_gated.specs.declared.fault.Halt.TheVariants as halts
use Rattle.ox_files.specs.Moments.{lines_in}
use Rattle.ox_model.specs.Replies.{after_on, after_turn, index_on, replies_on, reply_by}
use Rattle.ox_model.specs.Stack.{Stack, turn_on}
use Rattle.ox_model.proofs.AnswersOfStacks.{after_joined, after_none, after_one, replies_joined, replies_line, replies_none}
use Rattle.ox_app.specs.declared.status.Status.TheVariants as ends
use Rattle.ox_app.specs.declared.stop.Stop.{Stop}
use Rattle.ox_app.specs.declared.stop.Stop.TheVariants.{Halt, HearFault, ShowFault, TooMuch}
use Rattle.ox_app.specs.Fold.{AnswersNext, AnswersLine, NextLine}
use Rattle.ox_app.proofs.Pieces.{Own}
use Rattle.ox_app.proofs.FeedState.{HasAnswered, OwesAnswer}
use Rattle.ox_app.specs.Headline.{OnlyOwn, RunsFeed}
use Rattle.ox_app.specs.Show.{HearsNothing, ShowsFront, ShowsWhole}
use Rattle.ox_app.specs.Status.{status_of}
use Rattle.ox_app.specs.declared.status.Status.{Status}

-- ---- hearings show nothing

abbrev IsHearing : Event → Type 0
IsHearing event = IsTrue (is_hearing event)

hearing_own : (event : Event) → IsTrue (is_hearing event) → channel_of event ≡ 0
hearing_own (Opened channel door) h = cc
hearing_own (Heard channel bytes) h = eqb-true channel 0 h
hearing_own (Ended channel) h = eqb-true channel 0 h
hearing_own (Showed channel bytes) h = cc
hearing_own (Broke channel) h = eqb-true channel 0 h
hearing_own (GaveUp channel) h = cc
hearing_own (Shut channel) h = cc

pub hearings_own : (events : List Event) → All IsHearing events → OnlyOwn events
hearings_own [] h = All-nil Own
hearings_own (event ∷ events) h =
    All-cons Own event events (hearing_own event (All-head IsHearing event events h)) (hearings_own events (All-tail IsHearing event events h))

one_shows_nothing : (event : Event) (events : List Event) → IsTrue (is_hearing event) → shown_bytes 0 (event ∷ events) ≡ shown_bytes 0 events
one_shows_nothing (Opened channel door) events h = refl
one_shows_nothing (Heard channel bytes) events h = refl
one_shows_nothing (Ended channel) events h = refl
one_shows_nothing (Showed channel bytes) events h = cc
one_shows_nothing (Broke channel) events h = refl
one_shows_nothing (GaveUp channel) events h = refl
one_shows_nothing (Shut channel) events h = refl

pub hearings_show_nothing : (events : List Event) → All IsHearing events → shown_bytes 0 events ≡ []
hearings_show_nothing [] h = refl
hearings_show_nothing (event ∷ events) h =
    one_shows_nothing event events (All-head IsHearing event events h) ∙ hearings_show_nothing events (All-tail IsHearing event events h)

pub shown_as_before : (x y : List Event) → OnlyHears y → shown_bytes 0 (x ++ y) ≡ shown_bytes 0 x
shown_as_before x y h = shown_bytes-append 0 x y ∙ ap (λ (l : List ℕ). shown_bytes 0 x ++ l) (hearings_show_nothing y h) ∙ append-nil (shown_bytes 0 x)

-- what is heard in the end, part by part
heard_split : (x y : List Event) (more : List ℕ) → heard_bytes 0 (x ++ y) ++ more ≡ heard_bytes 0 x ++ (heard_bytes 0 y ++ more)
heard_split x y more = ap (λ (l : List ℕ). l ++ more) (heard_bytes-append 0 x y) ∙ append_assoc (heard_bytes 0 x) (heard_bytes 0 y) more

-- ---- what may come

both_none : (a b : List ℕ) → a ≡ [] → b ≡ [] → a ++ b ≡ []
both_none a b e f = rw (e, f) refl

-- what may come after a hearing may come with it
may_come : (lines lines' : Feed) (y : List Event) (more : List ℕ) (ended : Bool) → Hears lines lines' y → MayCome lines' more ended → MayCome lines (heard_bytes 0 y ++ more) ended
may_come lines lines' y more ended hears comes = λ over.
    let later = comes (hears.ended ∙ ap (λ (b : Bool). b || has_ended 0 y) over) in
    (both_none (heard_bytes 0 y) more (ap (heard_bytes 0) (hears.quiet over)) later.0, later.1)

heard_count : (lines lines' : Feed) (x y : List Event) → lines.heard ≡ length (heard_bytes 0 x) → Hears lines lines' y → lines'.heard ≡ length (heard_bytes 0 (x ++ y))
heard_count lines lines' x y count hears =
    omega (arith, count, hears.count, ap (λ (l : List ℕ). length l) (heard_bytes-append 0 x y), length-append (heard_bytes 0 x) (heard_bytes 0 y))

heard_ended : (lines lines' : Feed) (x y : List Event) → lines.ended ≡ has_ended 0 x → Hears lines lines' y → lines'.ended ≡ has_ended 0 (x ++ y)
heard_ended lines lines' x y ended hears =
    hears.ended ∙ ap (λ (b : Bool). b || has_ended 0 y) ended ∙ sym (has_ended-append 0 x y)

-- ---- lists of answers

pub concat_joined : (x y : List (List ℕ)) → concat (x ++ y) ≡ concat x ++ concat y
concat_joined [] y = refl
concat_joined (a ∷ x) y = ap (λ (l : List ℕ). a ++ l) (concat_joined x y) ∙ sym (append_assoc a (concat x) (concat y))

module _ (first : Stack) where
  -- the answers to lines and to further ones
  pub answers_joined : (done more : List FeedLine) → concat (replies_on first (done ++ more)) ≡ concat (replies_on first done) ++ concat (replies_on (after_on first done) more)
  answers_joined done more = ap (λ (l : List (List ℕ)). concat l) (replies_joined turn_on index_on first done more) ∙ concat_joined (replies_on first done) (replies_on (after_on first done) more)

  pub one_answer : (stack : Stack) (line : FeedLine) → concat (replies_on stack (line ∷ [])) ≡ reply_by index_on (turn_on stack line)
  one_answer stack line =
      ap (λ (l : List (List ℕ)). concat l) (replies_line turn_on index_on stack line [] ∙ ap (λ (l : List (List ℕ)). reply_by index_on (turn_on stack line) ∷ l) (replies_none turn_on index_on (after_turn stack (turn_on stack line))))
      ∙ append-nil (reply_by index_on (turn_on stack line))

  one_lead : (done : List FeedLine) (line : FeedLine) → after_on first (done ++ line ∷ []) ≡ after_turn (after_on first done) (turn_on (after_on first done) line)
  one_lead done line = after_joined turn_on first done (line ∷ []) ∙ after_one turn_on (after_on first done) line

  -- ---- one line

  -- what a line in memory was answered
  pub answered_line : (line : Line) (lines lines' : Feed) (stack stack' : Stack) (answer : Option (List ℕ)) (events : List Event)
      → AnswersLine line stack answer stack' → Answers lines (Ok line) lines' events → AnswersNext lines stack (Ok answer) lines' stack' events
  answered_line (Text l) lines lines' stack stack' answer events a h = record {
    hears = h.hears;
    came = rw a.says (record { line = text l; comes = h.line; says = refl; leaves = a.leaves });
  }
  answered_line Long lines lines' stack stack' answer events a h = record {
    hears = h.hears;
    came = rw a.says (record { line = too_long; comes = h.line; says = refl; leaves = a.leaves });
  }
  answered_line End lines lines' stack stack' answer events a h = record { hears = h.hears; came = rw a h.line }

  -- before the first line
  pub carried_none : (log : Option (List Event)) → Grows (HasAnswered first new_feed first) log log
  carried_none log = grows_none (HasAnswered first new_feed first) log (record {
    only = All-nil Own;
    count = refl;
    ended = refl;
    done = [];
    cut = λ more ended comes. refl;
    leads = sym (after_none turn_on first);
    said = ap (λ (l : List (List ℕ)). concat l) (sym (replies_none turn_on index_on first));
  })

  -- a run that hears nothing, and isn't done
  pub grows_quiet : (status : Status) → (status ≡ ends.Done → ⊥) → (status ≡ ends.TooMuch → ⊥) → (log : Option (List Event)) → Grows (RunsFeed (replies_on first) status) log log
  grows_quiet status undone bounded log = grows_none (RunsFeed (replies_on first) status) log (record {
    only = All-nil Own;
    shown = (concat (replies_on first (lines_in [])), refl);
    whole = λ done. absurd (undone done);
    within = omega arith;
    too_much = λ much. absurd (bounded much);
  })

  -- since there is no memory for a chain
  pub grows_unheard : (log : Option (List Event)) → Grows (RunsFeed (replies_on first) (status_of (Err (Halt halts.Memory)))) log log
  grows_unheard log = grows_quiet (status_of (Err (Halt halts.Memory))) (λ done. cc done) (λ much. cc much) log

  -- a line is heard and carried out, and its answer is owed
  pub owes_answer : (lines lines' : Feed) (stack stack' : Stack) (answer : List ℕ) (x y : List Event)
      → HasAnswered first lines stack x → Hears lines lines' y → NextLine lines stack answer (heard_bytes 0 y) lines' stack' → OwesAnswer first answer lines' stack' (x ++ y)
  owes_answer lines lines' stack stack' answer x y carried hears next = record {
    only = All-append Own x y carried.only (hearings_own y hears.only);
    count = heard_count lines lines' x y carried.count hears;
    ended = heard_ended lines lines' x y carried.ended hears;
    done = carried.done;
    line = next.line;
    cut = λ more ended comes.
        ap (λ (l : List ℕ). lines_of l ended) (heard_split x y more)
        ∙ carried.cut (heard_bytes 0 y ++ more) ended (may_come lines lines' y more ended hears comes)
        ∙ ap (λ (l : List FeedLine). carried.done ++ l) (next.comes more ended comes);
    leads = next.leaves ∙ ap (λ (s : Stack). after_turn s (turn_on s next.line)) carried.leads ∙ sym (one_lead carried.done next.line);
    says = next.says ∙ ap (λ (s : Stack). reply_by index_on (turn_on s next.line)) carried.leads;
    said = shown_as_before x y hears.only ∙ carried.said;
  }

  pub grows_owing : (lines lines' : Feed) (stack stack' : Stack) (answer : List ℕ) (log mid now : Option (List Event))
      → Grows (HasAnswered first lines stack) log mid → Grows (AnswersNext lines stack (Ok (Some answer)) lines' stack') mid now → Grows (OwesAnswer first answer lines' stack') log now
  grows_owing lines lines' stack stack' answer log mid now =
      grows_then (HasAnswered first lines stack) (AnswersNext lines stack (Ok (Some answer)) lines' stack') (OwesAnswer first answer lines' stack') log mid now
      (λ x y f q. owes_answer lines lines' stack stack' answer x y f q.hears q.came)

  ended_kept : (a b : Bool) → b ≡ false → a ≡ (a || b)
  ended_kept true b e = refl
  ended_kept false b e = sym e

  pub same_heard : (x z : List Event) → HearsNothing z → heard_bytes 0 (x ++ z) ≡ heard_bytes 0 x
  same_heard x z quiet = heard_bytes-append 0 x z ∙ ap (λ (l : List ℕ). heard_bytes 0 x ++ l) quiet.unheard ∙ append-nil (heard_bytes 0 x)

  pub same_ended : (x z : List Event) → HearsNothing z → has_ended 0 x ≡ has_ended 0 (x ++ z)
  same_ended x z quiet = ended_kept (has_ended 0 x) (has_ended 0 z) quiet.not_ended ∙ sym (has_ended-append 0 x z)

  -- the answer is shown
  shown_whole : (lines : Feed) (stack : Stack) (answer : List ℕ) (x z : List Event) → OwesAnswer first answer lines stack x → ShowsWhole answer z → HasAnswered first lines stack (x ++ z)
  shown_whole lines stack answer x z owed shows = record {
    only = All-append Own x z owed.only shows.quiet.only;
    count = owed.count ∙ ap (λ (l : List ℕ). length l) (sym (same_heard x z shows.quiet));
    ended = owed.ended ∙ same_ended x z shows.quiet;
    done = owed.done ++ owed.line ∷ [];
    cut = λ more ended comes.
        ap (λ (l : List ℕ). lines_of (l ++ more) ended) (same_heard x z shows.quiet)
        ∙ owed.cut more ended comes
        ∙ sym (append_assoc owed.done (owed.line ∷ []) (lines_from lines more ended));
    leads = owed.leads;
    said =
        shown_bytes-append 0 x z
        ∙ ap (λ (l : List ℕ). l ++ shown_bytes 0 z) owed.said
        ∙ ap (λ (l : List ℕ). concat (replies_on first owed.done) ++ l) (shows.shown ∙ owed.says ∙ sym (one_answer (after_on first owed.done) owed.line))
        ∙ sym (answers_joined owed.done (owed.line ∷ []));
  }

  pub grows_carried : (lines : Feed) (stack : Stack) (answer : List ℕ) (log mid now : Option (List Event))
      → Grows (OwesAnswer first answer lines stack) log mid → Grows (ShowsWhole answer) mid now → Grows (HasAnswered first lines stack) log now
  grows_carried lines stack answer log mid now =
      grows_then (OwesAnswer first answer lines stack) (ShowsWhole answer) (HasAnswered first lines stack) log mid now (λ x z f q. shown_whole lines stack answer x z f q)

  -- ---- the lines that stand whole

  -- after a hearing
  pub lines_heard : (lines : Feed) (stack : Stack) (x y : List Event) → Listens lines y
      → (carried : HasAnswered first lines stack x) → lines_in (x ++ y) ≡ carried.done ++ lines_from lines (heard_bytes 0 y) (has_ended 0 (x ++ y))
  lines_heard lines stack x y listens carried =
      let ended = has_ended 0 (x ++ y) in
      let may : MayCome lines (heard_bytes 0 y) ended = λ over.
      (ap (heard_bytes 0) (listens.quiet over), has_ended-append 0 x y ∙ ap (λ (b : Bool). b || has_ended 0 y) (sym carried.ended ∙ over)) in
      ap (λ (l : List ℕ). lines_of l ended) (heard_bytes-append 0 x y) ∙ carried.cut (heard_bytes 0 y) ended may

  -- with an answer that is owed, after showing
  pub lines_owing : (answer : List ℕ) (lines : Feed) (stack : Stack) (x z : List Event) → HearsNothing z
      → (owed : OwesAnswer first answer lines stack x) → lines_in (x ++ z) ≡ owed.done ++ owed.line ∷ lines_from lines [] (has_ended 0 x)
  lines_owing answer lines stack x z quiet owed =
      ap (λ (l : List ℕ). lines_of l (has_ended 0 (x ++ z))) (same_heard x z quiet ∙ sym (append-nil (heard_bytes 0 x)))
      ∙ ap (λ (b : Bool). lines_of (heard_bytes 0 x ++ []) b) (sym (same_ended x z quiet))
      ∙ owed.cut [] (has_ended 0 x) (λ over. (refl, sym owed.ended ∙ over))

  listens : (lines lines' : Feed) (y : List Event) → Hears lines lines' y → Listens lines y
  listens lines lines' y hears = record { only = hears.only; quiet = hears.quiet }

  -- ---- the end of a run

  -- what was shown before a hearing begins the answers to what was heard with it
  front_heard : (lines : Feed) (stack : Stack) (x y : List Event) (carried : HasAnswered first lines stack x) → Listens lines y
      → shown_bytes 0 (x ++ y) ++ concat (replies_on (after_on first carried.done) (lines_from lines (heard_bytes 0 y) (has_ended 0 (x ++ y)))) ≡ concat (replies_on first (lines_in (x ++ y)))
  front_heard lines stack x y carried hears =
      ap (λ (l : List ℕ). l ++ concat (replies_on (after_on first carried.done) (lines_from lines (heard_bytes 0 y) (has_ended 0 (x ++ y))))) (shown_as_before x y hears.only ∙ carried.said)
      ∙ sym (answers_joined carried.done (lines_from lines (heard_bytes 0 y) (has_ended 0 (x ++ y))))
      ∙ ap (λ (l : List FeedLine). concat (replies_on first l)) (sym (lines_heard lines stack x y hears carried))

  not_done : (stop : Stop) → status_of (Err stop) ≡ ends.Done → ⊥
  not_done (Halt halts.Disk) e = cc
  not_done HearFault e = cc
  not_done ShowFault e = cc
  not_done (Halt halts.Memory) e = cc
  not_done TooMuch e = cc

  stops_for_limit : (stop : Stop) → status_of (Err stop) ≡ ends.TooMuch → stop ≡ TooMuch
  stops_for_limit (Halt halts.Disk) e = cc
  stops_for_limit HearFault e = cc
  stops_for_limit ShowFault e = cc
  stops_for_limit (Halt halts.Memory) e = cc
  stops_for_limit TooMuch e = refl

  done_within : ends.Done ≡ ends.TooMuch → ⊥
  done_within e = cc

  fault_within : ends.ShowFault ≡ ends.TooMuch → ⊥
  fault_within e = cc

  fault_undone : ends.ShowFault ≡ ends.Done → ⊥
  fault_undone e = cc

  -- no further line was carried out
  pub run_stopped : (lines lines' : Feed) (stack : Stack) (stop : Stop) (x y : List Event) → lines'.heard ≤ feed_limit → (stop ≡ TooMuch → IsTooMuch lines')
      → HasAnswered first lines stack x → Hears lines lines' y → RunsFeed (replies_on first) (status_of (Err stop)) (x ++ y)
  run_stopped lines lines' stack stop x y within much carried hears =
      let count = heard_count lines lines' x y carried.count hears in
      record {
        only = All-append Own x y carried.only (hearings_own y hears.only);
        shown = (concat (replies_on (after_on first carried.done) (lines_from lines (heard_bytes 0 y) (has_ended 0 (x ++ y)))), front_heard lines stack x y carried (listens lines lines' y hears));
        whole = λ e. absurd (not_done stop e);
        within = omega (arith, within, count);
        too_much = λ e.
            let limit = much (stops_for_limit stop e) in
            (sym count ∙ limit.heard, sym (heard_ended lines lines' x y carried.ended hears) ∙ limit.more);
      }

  -- the feed has ended, and each line is answered
  pub answered_all : (lines lines' : Feed) (stack : Stack) (x y : List Event) → lines'.heard ≤ feed_limit
      → HasAnswered first lines stack x → Hears lines lines' y → IsDone lines (heard_bytes 0 y) lines' → RunsFeed (replies_on first) ends.Done (x ++ y)
  answered_all lines lines' stack x y within carried hears done =
      let count = heard_count lines lines' x y carried.count hears in
      let over : has_ended 0 (x ++ y) ≡ true = sym (heard_ended lines lines' x y carried.ended hears) ∙ done.ended in
      let none : concat (replies_on (after_on first carried.done) (lines_from lines (heard_bytes 0 y) (has_ended 0 (x ++ y)))) ≡ [] =
      ap (λ (b : Bool). concat (replies_on (after_on first carried.done) (lines_from lines (heard_bytes 0 y) b))) over
      ∙ ap (λ (l : List FeedLine). concat (replies_on (after_on first carried.done) l)) done.none
      ∙ ap (λ (l : List (List ℕ)). concat l) (replies_none turn_on index_on (after_on first carried.done)) in
      let front = front_heard lines stack x y carried (listens lines lines' y hears) in
      let whole : shown_bytes 0 (x ++ y) ≡ concat (replies_on first (lines_in (x ++ y))) = sym (append-nil (shown_bytes 0 (x ++ y))) ∙ ap (λ (l : List ℕ). shown_bytes 0 (x ++ y) ++ l) (sym none) ∙ front in
      record {
        only = All-append Own x y carried.only (hearings_own y hears.only);
        shown = (concat (replies_on (after_on first carried.done) (lines_from lines (heard_bytes 0 y) (has_ended 0 (x ++ y)))), front);
        whole = λ e. (whole, over);
        within = omega (arith, within, count);
        too_much = λ e. absurd (done_within e);
      }

  -- showing an answer failed
  run_broken : (answer : List ℕ) (lines : Feed) (stack : Stack) (x z : List Event) → lines.heard ≤ feed_limit → OwesAnswer first answer lines stack x → ShowsFront answer z → RunsFeed (replies_on first) ends.ShowFault (x ++ z)
  run_broken answer lines stack x z within owed shows =
      let rest = shows.shown.0 in
      let more = lines_from lines [] (has_ended 0 x) in
      let here = after_on first owed.done in
      let later = concat (replies_on (after_turn here (turn_on here owed.line)) more) in
      record {
        only = All-append Own x z owed.only shows.quiet.only;
        shown = (
          rest ++ later,
          ap (λ (l : List ℕ). l ++ (rest ++ later)) (shown_bytes-append 0 x z ∙ ap (λ (l : List ℕ). l ++ shown_bytes 0 z) owed.said)
              ∙ append_assoc (concat (replies_on first owed.done)) (shown_bytes 0 z) (rest ++ later)
              ∙ ap (λ (l : List ℕ). concat (replies_on first owed.done) ++ l)
              (sym (append_assoc (shown_bytes 0 z) rest later) ∙ ap (λ (l : List ℕ). l ++ later) (shows.shown.1 ∙ owed.says)
              ∙ ap (λ (l : List (List ℕ)). concat l) (sym (replies_line turn_on index_on here owed.line more)))
              ∙ sym (answers_joined owed.done (owed.line ∷ more))
              ∙ ap (λ (l : List FeedLine). concat (replies_on first l)) (sym (lines_owing answer lines stack x z shows.quiet owed)),
        );
        whole = λ e. absurd (fault_undone e);
        within = omega (arith, within, owed.count, ap (λ (l : List ℕ). length l) (same_heard x z shows.quiet));
        too_much = λ e. absurd (fault_within e);
      }

  pub grows_broken : (answer : List ℕ) (lines : Feed) (stack : Stack) (log mid now : Option (List Event)) → lines.heard ≤ feed_limit
      → Grows (OwesAnswer first answer lines stack) log mid → Grows (ShowsFront answer) mid now → Grows (RunsFeed (replies_on first) ends.ShowFault) log now
  grows_broken answer lines stack log mid now within =
      grows_then (OwesAnswer first answer lines stack) (ShowsFront answer) (RunsFeed (replies_on first) ends.ShowFault) log mid now (λ x z f q. run_broken answer lines stack x z within f q)

  pub grows_stopped : (lines lines' : Feed) (stack stack' : Stack) (stop : Stop) (log mid now : Option (List Event)) → lines'.heard ≤ feed_limit → (stop ≡ TooMuch → IsTooMuch lines')
      → Grows (HasAnswered first lines stack) log mid → Grows (AnswersNext lines stack (Err stop) lines' stack') mid now → Grows (RunsFeed (replies_on first) (status_of (Err stop))) log now
  grows_stopped lines lines' stack stack' stop log mid now within much =
      grows_then (HasAnswered first lines stack) (AnswersNext lines stack (Err stop) lines' stack') (RunsFeed (replies_on first) (status_of (Err stop))) log mid now
      (λ x y f q. run_stopped lines lines' stack stop x y within much f q.hears)

  pub grows_whole : (lines lines' : Feed) (stack stack' : Stack) (log mid now : Option (List Event)) → lines'.heard ≤ feed_limit
      → Grows (HasAnswered first lines stack) log mid → Grows (AnswersNext lines stack (Ok None) lines' stack') mid now → Grows (RunsFeed (replies_on first) ends.Done) log now
  grows_whole lines lines' stack stack' log mid now within =
      grows_then (HasAnswered first lines stack) (AnswersNext lines stack (Ok None) lines' stack') (RunsFeed (replies_on first) ends.Done) log mid now
      (λ x y f q. answered_all lines lines' stack x y within f q.hears q.came)
