-- A run over a feed and a store goes on: what a crash leaves at each moment, and what holds between two lines.
use Rattle.std.proofs.Common.{◌≡◌, ◌∙◌, ⊎_elim, inl, inr, ℕ, ◌≤◌, List, [], ◌++◌, length, Option, Some, None, refl, sym, ap, subst}
use Rattle.std.specs.Prelude.{Result, Ok, Err, IfOk, IsErrOf}
use Rattle.std.proofs.lemmas.List.{append-nil}
use Rattle.std.proofs.lemmas.List.Elements.{All-nil}
use Rattle.ox_outside.specs.Crash.{Remains, LeavesFiles}
use Rattle.ox_outside.specs.Event.{Event}
use Rattle.ox_outside.specs.Files.{Files, file_of, other}
use Rattle.ox_outside.specs.declared.site.Site.{Ghosts as Meanings}
use Rattle.ox_outside.specs.Log.{Grows}
use Rattle.ox_outside.proofs.Log.{grows_same, grows_then, grows_weaker}
use Rattle.ox_feed.specs.Feed.{Answers, Feed, IsTooMuch, Listens, feed_limit, text, too_long, new_feed}
use Rattle.ox_feed.specs.declared.lines.FeedFault.{FeedFault}
use Rattle.ox_feed.specs.declared.lines.Line.{Line}
use Rattle.ox_feed.specs.declared.lines.Line.TheVariants.{Text, Long, End}
use Rattle.ox_gated.specs.Layout.{is_closed}
use Rattle.ox_gated.specs.Reading.{is_any, reading}
use Rattle.ox_gated.specs.Tail.{Keeps, Kept}
use Rattle.ox_model.specs.Replies.{after_on, after_turn, index_on, replies_on, reply_by}
use Rattle.ox_model.specs.Stack.{Stack, turn_on}
use Rattle.ox_files.specs.Stands.{stands}
use Rattle.ox_store.specs.Ready.{StandsForEither}
use Rattle.ox_app.specs.Apply.{CarriesOutNext, CarriesOut, DuringLine, after_line}
use Rattle.ox_app.specs.declared.carry.CarriedLine.{CarriedLine}
use Rattle.ox_app.specs.declared.status.Status.TheVariants as ends
use Rattle.ox_app.specs.declared.stop.Stop.{Stop}
use Rattle.ox_app.specs.declared.stop.Stop.TheVariants.{TooMuch}
use Rattle.ox_app.proofs.FeedAnswers.{answered_all, carried_none, owes_answer, run_stopped}
use Rattle.ox_app.proofs.Pieces.{front_none}
use Rattle.ox_app.proofs.Prefixes.{stops_hearing, survives_owing, survives_rest}
use Rattle.ox_app.proofs.FeedState.{HasAnswered, OwesAnswer}
use Rattle.ox_outside.proofs.Calls.{leaves_at_first, leaves_then, leaves_weaker}
use Rattle.ox_app.specs.Headline.{RunsFeed, StopsBefore, Survives}
use Rattle.ox_gated.specs.Tail.{Holds, IsSettled}
use Rattle.ox_outside.specs.Runs.{LeavesOnly, OnlyTalks}
use Rattle.ox_app.specs.Show.{ShowsFront}
use Rattle.ox_app.specs.Status.{status_of}

-- ---- one line

same_some : (a b : List ℕ) → Some a ≡ Some b → a ≡ b
same_some a b is = cc is

-- what a line that was heard and carried out says
carried_line : (line : Line) (lines lines' : Feed) (stack : Stack) (result : Result (Option CarriedLine) Stop) (y : List Event)
    → Answers lines (Ok line) lines' y → IfOk result (CarriesOut line stack) → CarriesOutNext lines stack result lines' y
carried_line (Text l) lines lines' stack (Ok (Some c)) y answers out = record {
  hears = answers.hears;
  came = record { line = text l; comes = answers.line; says = same_some _ _ out.says; leaves = out.leaves };
}
carried_line Long lines lines' stack (Ok (Some c)) y answers out = record {
  hears = answers.hears;
  came = record { line = too_long; comes = answers.line; says = same_some _ _ out.says; leaves = out.leaves };
}
carried_line End lines lines' stack (Ok (Some c)) y answers out = cc out
carried_line (Text l) lines lines' stack (Ok None) y answers out = cc out
carried_line Long lines lines' stack (Ok None) y answers out = cc out
carried_line End lines lines' stack (Ok None) y answers out = record { hears = answers.hears; came = answers.line }
carried_line line lines lines' stack (Err stop) y answers out = record { hears = answers.hears; came = tt }

pub grows_line : (line : Line) (lines lines' : Feed) (stack : Stack) (result : Result (Option CarriedLine) Stop) (log mid now : Option (List Event))
    → Grows (Answers lines (Ok line) lines') log mid → IfOk result (CarriesOut line stack) → now ≡ mid → Grows (CarriesOutNext lines stack result lines') log now
grows_line line lines lines' stack result log mid now grows out same =
    grows_same (CarriesOutNext lines stack result lines') log mid now
    (grows_weaker (Answers lines (Ok line) lines') (CarriesOutNext lines stack result lines') log mid (λ y answers. carried_line line lines lines' stack result y answers out) grows) same

-- no line came
pub grows_no_line : (fault : FeedFault) (stop : Stop) (lines lines' : Feed) (stack : Stack) (log now : Option (List Event))
    → Grows (Answers lines (Err fault) lines') log now → Grows (CarriesOutNext lines stack (Err stop) lines') log now
grows_no_line fault stop lines lines' stack log now =
    grows_weaker (Answers lines (Err fault) lines') (CarriesOutNext lines stack (Err stop) lines') log now (λ y answers. record { hears = answers.hears; came = tt })

by_line : (line : Line) (lines lines' : Feed) (stack : Stack) (files : Files) (y : List Event) → Answers lines (Ok line) lines' y → StandsForEither stack (after_line stack line) files
    → DuringLine lines stack lines' files y
by_line line lines lines' stack files y answers (inl before) = inl (record { only = answers.hears.only; quiet = answers.hears.quiet }, before)
by_line (Text l) lines lines' stack files y answers (inr after) = inr (record { line = text l; hears = answers.hears; comes = answers.line; stands_for = after })
by_line Long lines lines' stack files y answers (inr after) = inr (record { line = too_long; hears = answers.hears; comes = answers.line; stands_for = after })
by_line End lines lines' stack files y answers (inr after) = inl (record { only = answers.hears.only; quiet = answers.hears.quiet }, after)

-- ---- what a crash leaves

module _ {S : Type 0} (means : Meanings S) where
  abbrev Only : S → S → (Remains → Type 0) → Type 0
  Only old new P = LeavesOnly means old new P

  pub both : (old new : S) (P Q : Remains → Type 0) → Only old new P → Only old new Q → Only old new (λ r. P r × Q r)
  both old new P Q p q = record {
    later = p.later;
    each = λ r left. (p.each r left, q.each r left);
    before = λ t r le left. ⊎_elim (λ l. inl l) (λ here. ⊎_elim (λ l. inl l) (λ there. inr (here, there)) (q.before t r le left)) (p.before t r le left);
  }

  abbrev During : Feed → Stack → Feed → S → Remains → Type 0
  During lines stack lines' old r = Grows (DuringLine lines stack lines' r.files) (means.log old) (Some r.log)

  -- files that a crash leaves of a site whose files are all on the disk
  same_files : (old : S) (stack : Stack) → IsSettled means old → stands (means.seen old) ≡ Ok stack → (files : Files) → (q : Remains) → means.may_leave old q → files ≡ q.files → stands files ≡ Ok stack
  same_files old stack settled stood files q left is = ap stands (is ∙ settled q left) ∙ stood

  -- while a line is heard
  pub during_heard : (lines lines' : Feed) (stack : Stack) (old mid : S) → OnlyTalks means (Listens lines) old mid
      → IsSettled means old → stands (means.seen old) ≡ Ok stack → Only old mid (During lines stack lines' old)
  during_heard lines lines' stack old mid talks settled stood =
      leaves_weaker means old mid _ (During lines stack lines' old) (λ r talked.
      grows_weaker (Listens lines) (DuringLine lines stack lines' r.files) (means.log old) (Some r.log)
      (λ y listened. inl (listened, same_files old stack settled stood r.files talked.files.0 talked.files.1 talked.files.2)) talked.grown) talks.moments

  -- and carried out
  pub during_carried : (line : Line) (lines lines' : Feed) (stack : Stack) (old mid new : S) → OnlyTalks means (Listens lines) old mid
      → IsSettled means old → stands (means.seen old) ≡ Ok stack → Grows (Answers lines (Ok line) lines') (means.log old) (means.log mid)
      → Only mid new (λ r. means.log mid ≡ Some r.log) → Only mid new (λ r. StandsForEither stack (after_line stack line) r.files) → Only old new (During lines stack lines' old)
  during_carried line lines lines' stack old mid new talks settled stood grows logged either =
      leaves_then means old mid new (During lines stack lines' old) (during_heard lines lines' stack old mid talks settled stood)
      (leaves_weaker means mid new _ (During lines stack lines' old) (λ r is.
      grows_weaker (Answers lines (Ok line) lines') (DuringLine lines stack lines' r.files) (means.log old) (Some r.log)
      (λ y answers. by_line line lines lines' stack r.files y answers is.1) (grows_same (Answers lines (Ok line) lines') (means.log old) (means.log mid) (Some r.log) grows (sym is.0)))
      (both mid new _ _ logged either))

  -- what holds of the files goes on while nothing but channels is used
  pub stands_on : (old new : S) (stack : Stack) → LeavesFiles means.seen means.may_leave old new → stands (means.seen old) ≡ Ok stack → stands (means.seen new) ≡ Ok stack
  stands_on old new stack files stood = ap stands files.files ∙ stood

  pub holds_on : (old new : S) (tail : Kept) → LeavesFiles means.seen means.may_leave old new → Holds means tail old → Holds means tail new
  holds_on old new tail files holds = record {
    settled = λ r left.
        let q = files.none_new r left in
        q.2 ∙ holds.settled q.0 q.1 ∙ sym files.files;
    some_a = subst (λ (f : Files). 1 ≤ length f.a) (sym files.files) holds.some_a;
    some_b = subst (λ (f : Files). 1 ≤ length f.b) (sym files.files) holds.some_b;
    keeps = subst (λ (f : Files). Keeps tail (reading is_any f)) (sym files.files) holds.keeps;
    closed = subst (λ (f : Files). tail.other_closed ≡ is_closed (file_of f (other tail.file))) (sym files.files) holds.closed;
  }

  module _ (first : Stack) where
    abbrev pub Survived : S → Remains → Type 0
    Survived start r = Grows (λ events. Survives (replies_on first) (after_on first) events r.files) (means.log start) (Some r.log)

    by_during : (lines lines' : Feed) (stack : Stack) (files : Files) (x y : List Event) → HasAnswered first lines stack x → DuringLine lines stack lines' files y
        → Survives (replies_on first) (after_on first) (x ++ y) files
    by_during lines lines' stack files x y carried (inl rest) = survives_rest first lines stack x y files carried rest.0 rest.1
    by_during lines lines' stack files x y carried (inr heard) =
        let answer = reply_by index_on (turn_on stack heard.line) in
        let stack' = after_turn stack (turn_on stack heard.line) in
        let owed : OwesAnswer first answer lines' stack' (x ++ y) = owes_answer first lines lines' stack stack' answer x y carried heard.hears (record { line = heard.line; comes = heard.comes; says = refl; leaves = refl }) in
        subst (λ (l : List Event). Survives (replies_on first) (after_on first) l files) (append-nil (x ++ y))
        (survives_owing first answer lines' stack' (x ++ y) [] files owed (front_none answer) heard.stands_for)

    -- before the first line
    pub survived_none : ((site : S) (r : Remains) → means.left_since site (means.clock site) r → means.may_leave site r) → ((site : S) (r : Remains) → means.may_leave site r → means.log site ≡ Some r.log)
        → (site : S) → IsSettled means site → stands (means.seen site) ≡ Ok first → Only site site (Survived site)
    survived_none only_now logs_now site settled stood =
        leaves_at_first means site (Survived site) (λ r left.
        let now = only_now site r left in
        let stood_r : stands r.files ≡ Ok first = ap stands (settled r now) ∙ stood in
        grows_same _ (means.log site) (means.log site) (Some r.log)
        (grows_weaker (HasAnswered first new_feed first) (λ events. Survives (replies_on first) (after_on first) events r.files) (means.log site) (means.log site)
        (λ x carried. subst (λ (l : List Event). Survives (replies_on first) (after_on first) l r.files) (append-nil x)
        (survives_rest first new_feed first x [] r.files carried (record { only = All-nil _; quiet = λ over. refl }) stood_r)) (carried_none first (means.log site))) (sym (logs_now site r now)))

    -- one line more
    pub survived_line : (lines lines' : Feed) (stack : Stack) (start old new : S) → Only start old (Survived start) → Grows (HasAnswered first lines stack) (means.log start) (means.log old)
        → Only old new (During lines stack lines' old) → Only start new (Survived start)
    survived_line lines lines' stack start old new so_far carried during =
        leaves_then means start old new (Survived start) so_far
        (leaves_weaker means old new (During lines stack lines' old) (Survived start) (λ r d.
        grows_then (HasAnswered first lines stack) (DuringLine lines stack lines' r.files) (λ events. Survives (replies_on first) (after_on first) events r.files)
        (means.log start) (means.log old) (Some r.log) (λ x y c e. by_during lines lines' stack r.files x y c e) carried d) during)

    -- its answer is shown
    pub survived_shown : (answer : List ℕ) (lines : Feed) (stack : Stack) (start old new : S) → Only start old (Survived start) → Grows (OwesAnswer first answer lines stack) (means.log start) (means.log old)
        → IsSettled means old → stands (means.seen old) ≡ Ok stack → OnlyTalks means (ShowsFront answer) old new → Only start new (Survived start)
    survived_shown answer lines stack start old new so_far owed settled stood talks =
        leaves_then means start old new (Survived start) so_far
        (leaves_weaker means old new _ (Survived start) (λ r talked.
        grows_then (OwesAnswer first answer lines stack) (ShowsFront answer) (λ events. Survives (replies_on first) (after_on first) events r.files)
        (means.log start) (means.log old) (Some r.log)
        (λ x z o s. survives_owing first answer lines stack x z r.files o s (same_files old stack settled stood r.files talked.files.0 talked.files.1 talked.files.2)) owed talked.grown) talks.moments)

-- ---- what was shown

pub same_stop : (a b : Stop) → IsErrOf (let r : Result (Unit {0}) Stop = Err a in r) b → a ≡ b
same_stop a b is = cc

module _ (first : Stack) where
  pub grows_owing_store : (carried : CarriedLine) (lines lines' : Feed) (stack : Stack) (log mid now : Option (List Event))
      → Grows (HasAnswered first lines stack) log mid → Grows (CarriesOutNext lines stack (Ok (Some carried)) lines') mid now → Grows (OwesAnswer first carried.answer lines' carried.store.stack) log now
  grows_owing_store carried lines lines' stack log mid now =
      grows_then (HasAnswered first lines stack) (CarriesOutNext lines stack (Ok (Some carried)) lines') (OwesAnswer first carried.answer lines' carried.store.stack) log mid now
      (λ x y f q. owes_answer first lines lines' stack carried.store.stack carried.answer x y f q.hears q.came)

  pub grows_stopped_store : (lines lines' : Feed) (stack : Stack) (stop : Stop) (log mid now : Option (List Event)) → lines'.heard ≤ feed_limit → (stop ≡ TooMuch → IsTooMuch lines')
      → Grows (HasAnswered first lines stack) log mid → Grows (CarriesOutNext lines stack (Err stop) lines') mid now → Grows (RunsFeed (replies_on first) (status_of (Err stop))) log now
  grows_stopped_store lines lines' stack stop log mid now within much =
      grows_then (HasAnswered first lines stack) (CarriesOutNext lines stack (Err stop) lines') (RunsFeed (replies_on first) (status_of (Err stop))) log mid now
      (λ x y f q. run_stopped first lines lines' stack stop x y within much f q.hears)

  pub grows_whole_store : (lines lines' : Feed) (stack : Stack) (log mid now : Option (List Event)) → lines'.heard ≤ feed_limit
      → Grows (HasAnswered first lines stack) log mid → Grows (CarriesOutNext lines stack (Ok None) lines') mid now → Grows (RunsFeed (replies_on first) ends.Done) log now
  grows_whole_store lines lines' stack log mid now within =
      grows_then (HasAnswered first lines stack) (CarriesOutNext lines stack (Ok None) lines') (RunsFeed (replies_on first) ends.Done) log mid now
      (λ x y f q. answered_all first lines lines' stack x y within f q.hears q.came)

  -- memory ran out at a line
  pub grows_stops : (lines lines' : Feed) (stack : Stack) (stop : Stop) (files : Files) (log mid now : Option (List Event)) → stands files ≡ Ok stack
      → Grows (HasAnswered first lines stack) log mid → Grows (CarriesOutNext lines stack (Err stop) lines') mid now → Grows (StopsBefore (replies_on first) (after_on first) files) log now
  grows_stops lines lines' stack stop files log mid now stood =
      grows_then (HasAnswered first lines stack) (CarriesOutNext lines stack (Err stop) lines') (StopsBefore (replies_on first) (after_on first) files) log mid now
      (λ x y f q. stops_hearing first lines lines' stack x y files f q.hears stood)
