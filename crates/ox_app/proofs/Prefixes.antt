-- What survives a crash during a run over a feed and a store.
use Rattle.std.proofs.Common.{◌≡◌, ◌∙◌, ℕ, suc, List, [], ◌∷◌, ◌++◌, length, take, append_assoc, refl, sym, ap, subst, ◌⊎◌, inl, inr}
use Rattle.std.specs.Prelude.{All, Ok, ◌≤◌}
use Rattle.std.specs.List.{concat}
use Rattle.std.proofs.lemmas.List.{append-nil}
use Rattle.std.proofs.lemmas.List.Elements.{All-cons, All-nil}
use Rattle.ox_outside.specs.Event.{Event, has_ended, heard_bytes, shown_bytes}
use Rattle.ox_outside.specs.Files.{Files}
use Rattle.ox_outside.proofs.Event.{shown_bytes-append}
use Rattle.ox_feed.specs.Feed.{Feed, FeedLine, Hears, Listens, lines_from}
use Rattle.ox_files.specs.Moments.{acknowledgements_in, count, lines_in, moments}
use Rattle.ox_outside.specs.Shown.{acknowledgements}
use Rattle.ox_model.specs.Replies.{after_on, after_turn, index_on, replies_on, reply_by}
use Rattle.ox_model.specs.Stack.{Stack, turn_on}
use Rattle.ox_files.specs.Stands.{stands}
use Rattle.ox_files.proofs.CountedMoments.{HasByte, acknowledged_ahead, acknowledged_at_rest, count_ahead, count_at_rest}
use Rattle.ox_model.proofs.AnswersOfStacks.{replies_joined, replies_length, after_none, replies_line, replies_none, reply_some}
use Rattle.ox_app.proofs.FeedAnswers.{answers_joined, lines_heard, lines_owing, one_answer, shown_as_before}
use Rattle.ox_app.proofs.FeedState.{HasAnswered, OwesAnswer}
use Rattle.ox_app.specs.Headline.{StopsBefore, Survives}
use Rattle.ox_app.specs.Show.{ShowsFront}

-- every answer has a byte
replies_some : (stack : Stack) (lines : List FeedLine) → All HasByte (replies_on stack lines)
replies_some stack [] = subst (All HasByte) (sym (replies_none turn_on index_on stack)) (All-nil HasByte)
replies_some stack (line ∷ lines) =
    subst (All HasByte) (sym (replies_line turn_on index_on stack line lines))
    (All-cons HasByte _ _ (reply_some index_on (turn_on stack line)) (replies_some (after_turn stack (turn_on stack line)) lines))

take_front : (done more : List FeedLine) → take (length done) (done ++ more) ≡ done
take_front [] more = refl
take_front (line ∷ done) more = ap (λ (l : List FeedLine). line ∷ l) (take_front done more)

take_one_more : (done : List FeedLine) (line : FeedLine) (more : List FeedLine) → take (suc (length done)) (done ++ line ∷ more) ≡ done ++ line ∷ []
take_one_more [] line more = refl
take_one_more (first ∷ done) line more = ap (λ (l : List FeedLine). first ∷ l) (take_one_more done line more)

either_same : (m n n' : ℕ) → n ≡ n' → (m ≡ n) ⊎ (m ≡ suc n) → (m ≡ n') ⊎ (m ≡ suc n')
either_same m n n' is (inl a) = inl (a ∙ is)
either_same m n n' is (inr b) = inr (b ∙ ap suc is)

module _ (first : Stack) where
  -- the moments of the lines that are done have come, and that of the next one if there is one
  counted_at : (done more : List FeedLine) (events : List Event) → lines_in events ≡ done ++ more → shown_bytes 0 events ≡ concat (replies_on first done)
      → (count (replies_on first (lines_in events)) events ≡ length done) ⊎ (count (replies_on first (lines_in events)) events ≡ suc (length done))
  counted_at done more events is said =
      let here = replies_on first done in
      let next = replies_on (after_on first done) more in
      let all : replies_on first (lines_in events) ≡ here ++ next = ap (replies_on first) is ∙ replies_joined turn_on index_on first done more in
      subst (λ (l : List (List ℕ)). (count l events ≡ length done) ⊎ (count l events ≡ suc (length done))) (sym all)
      (subst (λ (s : List ℕ). (moments (here ++ next) s ≡ length done) ⊎ (moments (here ++ next) s ≡ suc (length done))) (sym said)
      (either_same _ _ _ (replies_length turn_on index_on first done) (count_at_rest here next (replies_some (after_on first done) more))))

  -- the files stand for where the lines that are done lead
  stands_at : (done more : List FeedLine) (events : List Event) (files : Files) → lines_in events ≡ done ++ more → stands files ≡ Ok (after_on first done)
      → stands files ≡ Ok (after_on first (take (length done) (lines_in events)))
  stands_at done more events files is stood =
      stood ∙ ap (λ (l : List FeedLine). Ok (after_on first l)) (sym (take_front done more) ∙ ap (take (length done)) (sym is))

  -- all answers of the lines that are done are shown, and the files stand for where these lead
  survives_at : (done more : List FeedLine) (events : List Event) (files : Files) → lines_in events ≡ done ++ more → shown_bytes 0 events ≡ concat (replies_on first done)
      → stands files ≡ Ok (after_on first done) → Survives (replies_on first) (after_on first) events files
  survives_at done more events files is said stood =
      let here = replies_on first done in
      let next = replies_on (after_on first done) more in
      let all : replies_on first (lines_in events) ≡ here ++ next = ap (replies_on first) is ∙ replies_joined turn_on index_on first done more in
      let front : concat (replies_on first (take (length done) (lines_in events))) ≡ concat here =
      ap (λ (l : List FeedLine). concat (replies_on first l)) (ap (take (length done)) is ∙ take_front done more) in
      record {
        kept = length done;
        shown = ([], append-nil (shown_bytes 0 events) ∙ said ∙ sym front);
        counted = counted_at done more events is said;
        acknowledged = subst (λ (l : List (List ℕ)). acknowledgements_in l events ≤ length done) (sym all)
            (subst (λ (s : List ℕ). acknowledgements (here ++ next) s ≤ length done) (sym said)
            (subst (λ (n : ℕ). acknowledgements (here ++ next) (concat here) ≤ n) (replies_length turn_on index_on first done) (acknowledged_at_rest here next (replies_some first done))));
        stands_for = stands_at done more events files is stood;
      }

  -- a run stops there
  stops_at : (done more : List FeedLine) (events : List Event) (files : Files) → lines_in events ≡ done ++ more → shown_bytes 0 events ≡ concat (replies_on first done)
      → stands files ≡ Ok (after_on first done) → StopsBefore (replies_on first) (after_on first) files events
  stops_at done more events files is said stood =
      record {
        kept = length done;
        counted = counted_at done more events is said;
        shown = said ∙ ap (λ (l : List FeedLine). concat (replies_on first l)) (sym (take_front done more) ∙ ap (take (length done)) (sym is));
        stands_for = stands_at done more events files is stood;
      }

  -- no further line is carried out, as memory ran out
  pub stops_hearing : (lines lines' : Feed) (stack : Stack) (x y : List Event) (files : Files) → HasAnswered first lines stack x → Hears lines lines' y
      → stands files ≡ Ok stack → StopsBefore (replies_on first) (after_on first) files (x ++ y)
  stops_hearing lines lines' stack x y files carried hears stood =
      stops_at carried.done (lines_from lines (heard_bytes 0 y) (has_ended 0 (x ++ y))) (x ++ y) files
      (lines_heard first lines stack x y (record { only = hears.only; quiet = hears.quiet }) carried)
      (shown_as_before x y hears.only ∙ carried.said) (stood ∙ ap (λ (s : Stack). Ok s) carried.leads)

  -- nor was any heard
  pub stops_none : (files : Files) → stands files ≡ Ok first → StopsBefore (replies_on first) (after_on first) files []
  stops_none files stood =
      stops_at [] (lines_in []) [] files refl (ap (λ (l : List (List ℕ)). concat l) (sym (replies_none turn_on index_on first)))
      (stood ∙ ap (λ (s : Stack). Ok s) (sym (after_none turn_on first)))

  -- and a front of the next line's answer, where the files stand for where that line leads
  survives_past : (done : List FeedLine) (line : FeedLine) (more : List FeedLine) (p rest : List ℕ) (events : List Event) (files : Files) → lines_in events ≡ done ++ line ∷ more
      → shown_bytes 0 events ≡ concat (replies_on first done) ++ p → p ++ rest ≡ reply_by index_on (turn_on (after_on first done) line)
      → stands files ≡ Ok (after_on first (done ++ line ∷ [])) → Survives (replies_on first) (after_on first) events files
  survives_past done line more p rest events files is said part stood =
      let here = replies_on first done in
      let stack = after_on first done in
      let answer = reply_by index_on (turn_on stack line) in
      let next = replies_on (after_turn stack (turn_on stack line)) more in
      let all : replies_on first (lines_in events) ≡ here ++ answer ∷ next =
      ap (replies_on first) is ∙ replies_joined turn_on index_on first done (line ∷ more) ∙ ap (λ (l : List (List ℕ)). here ++ l) (replies_line turn_on index_on stack line more) in
      let front : concat (replies_on first (take (suc (length done)) (lines_in events))) ≡ concat here ++ answer =
      ap (λ (l : List FeedLine). concat (replies_on first l)) (ap (take (suc (length done))) is ∙ take_one_more done line more)
      ∙ answers_joined first done (line ∷ []) ∙ ap (λ (l : List ℕ). concat here ++ l) (one_answer first stack line) in
      record {
        kept = suc (length done);
        shown = (
          rest,
          ap (λ (l : List ℕ). l ++ rest) said ∙ append_assoc (concat here) p rest
              ∙ ap (λ (l : List ℕ). concat here ++ l) part ∙ sym front,
        );
        counted = subst (λ (l : List (List ℕ)). (count l events ≡ suc (length done)) ⊎ (count l events ≡ suc (suc (length done)))) (sym all)
            (subst (λ (s : List ℕ). (moments (here ++ answer ∷ next) s ≡ suc (length done)) ⊎ (moments (here ++ answer ∷ next) s ≡ suc (suc (length done)))) (sym said)
            (either_same _ _ _ (ap suc (replies_length turn_on index_on first done)) (count_ahead here answer rest p next part (replies_some (after_turn stack (turn_on stack line)) more))));
        acknowledged = subst (λ (l : List (List ℕ)). acknowledgements_in l events ≤ suc (length done)) (sym all)
            (subst (λ (s : List ℕ). acknowledgements (here ++ answer ∷ next) s ≤ suc (length done)) (sym said)
            (subst (λ (n : ℕ). acknowledgements (here ++ answer ∷ next) (concat here ++ p) ≤ suc n) (replies_length turn_on index_on first done)
            (acknowledged_ahead here answer rest p next part (replies_some first done))));
        stands_for = stood ∙ ap (λ (l : List FeedLine). Ok (after_on first l)) (sym (take_one_more done line more) ∙ ap (take (suc (length done))) (sym is));
      }

  -- between two lines, and while the next one is heard
  pub survives_rest : (lines : Feed) (stack : Stack) (x y : List Event) (files : Files) → HasAnswered first lines stack x → Listens lines y
      → stands files ≡ Ok stack → Survives (replies_on first) (after_on first) (x ++ y) files
  survives_rest lines stack x y files carried listens stood =
      survives_at carried.done (lines_from lines (heard_bytes 0 y) (has_ended 0 (x ++ y))) (x ++ y) files (lines_heard first lines stack x y listens carried)
      (shown_as_before x y listens.only ∙ carried.said) (stood ∙ ap (λ (s : Stack). Ok s) carried.leads)

  -- a line is carried out, and a front of its answer is shown
  pub survives_owing : (answer : List ℕ) (lines : Feed) (stack : Stack) (x z : List Event) (files : Files) → OwesAnswer first answer lines stack x → ShowsFront answer z
      → stands files ≡ Ok stack → Survives (replies_on first) (after_on first) (x ++ z) files
  survives_owing answer lines stack x z files owed shows stood =
      survives_past owed.done owed.line (lines_from lines [] (has_ended 0 x)) (shown_bytes 0 z) shows.shown.0 (x ++ z) files (lines_owing first answer lines stack x z shows.quiet owed)
      (shown_bytes-append 0 x z ∙ ap (λ (l : List ℕ). l ++ shown_bytes 0 z) owed.said) (shows.shown.1 ∙ owed.says)
      (stood ∙ ap (λ (s : Stack). Ok s) owed.leads)
