-- Servers whose states stand for one another make the same turns, show the same fronts, and count and survive alike.
use Rattle.std.proofs.Common.{◌≡◌, ◌∙◌, ◌⊎◌, ◌≤◌, false, ℕ, suc, not, List, [], ◌∷◌, ◌++◌, Option, Some, None, if◌then◌else◌, sym, ap, subst, take, inl, inr, ⊎_elim}
use Rattle.std.specs.Prelude.{IsTrue, All, unwrap_or}
use Rattle.ox_outside.specs.Counts.{Counts}
use Rattle.ox_outside.specs.Event.{Event, GaveUp, Shut, shown_bytes}
use Rattle.ox_outside.specs.Files.{Files}
use Rattle.ox_outside.specs.Shown.{IsFrontOf}
use Rattle.ox_links.specs.Alike.{SameServer, SameTurn}
use Rattle.ox_links.specs.Counted.{hits_in, requests_in}
use Rattle.ox_links.specs.Link.{Answer, all_shown, answers_to, is_over, reply_bytes}
use Rattle.ox_links.specs.Rotation.{Who, door_of, link_of}
use Rattle.ox_links.specs.Serving.{Server, commands_in, served_by, state_after}
use Rattle.ox_links.specs.Survives.{Survives, acknowledged_to}
use Rattle.ox_links.specs.Turned.{AreTurns, CutShort, IsCut, IsFewer, IsFirst, IsRest, IsTurn, Turn, Turned, is_first, logged_by}
use Rattle.ox_links.proofs.Like.{serve_alike}
use Rattle.ox_turns.specs.Follows.{ShowsFrontsIn}
use Rattle.ox_app.specs.Turns.{Served}

module _ {X Y C : Type 0} (stands_for : X → Y → Type 0) (one : Server X C) (two : Server Y C) (same : SameServer stands_for one two) where
  state_same : (x : X) (y : Y) → stands_for x y → (s : Option X) (t : Option Y) → SameTurn stands_for s t → stands_for (unwrap_or s x) (unwrap_or t y)
  state_same x y here None None is = here
  state_same x y here (Some s) (Some t) is = is
  state_same x y here None (Some t) is = absurd is
  state_same x y here (Some s) None is = absurd is

  -- where commands lead
  leads_alike : (x : X) (y : Y) → stands_for x y → (commands : List C) → stands_for (state_after one x commands) (state_after two y commands)
  leads_alike x y here [] = here
  leads_alike x y here (c ∷ commands) =
      leads_alike (unwrap_or (one.turn x c) x) (unwrap_or (two.turn y c) y) (state_same x y here (one.turn x c) (two.turn y c) (same.turn x y here c)) commands

  module _ (x : X) (y : Y) (here : stands_for x y) where
    abbrev Answers : Type 0
    Answers = List (Answer C)

    answers : (log : List Event) → (served_by two y log).answers ≡ (served_by one x log).answers
    answers log = (serve_alike stands_for one two same x y here log).answers

    pub fronts_alike : (log : List Event) → ShowsFrontsIn two y log → ShowsFrontsIn one x log
    fronts_alike log fronts channel some =
        subst (λ (l : Answers). IsFrontOf (shown_bytes channel log) (reply_bytes (answers_to channel l))) (answers log) (fronts channel some)

    -- ---- turns

    first_alike : (past : List Event) (who : Who) (event : Event) → IsFirst two y past who event → IsFirst one x past who event
    first_alike past (door_of door) event is = is
    first_alike past (link_of c) event is = subst (λ (l : Answers). IsTrue (is_first c (not (all_shown c past l)) event)) (answers past) is

    abbrev RestBy : ℕ → List Event → Answers → Answers → List Event → Type 0
    RestBy c now before after rest =
        (rest ≡ (if is_over c now after then Shut c ∷ [] else []))
        ⊎ ((rest ≡ GaveUp c ∷ []) × (is_over c now after ≡ false) × IsTrue (all_shown c now before))

    rest_alike : (past : List Event) (who : Who) (event : Event) (rest : List Event) → IsRest two y past who event rest → IsRest one x past who event rest
    rest_alike past (door_of door) event rest is = is
    rest_alike past (link_of c) event rest is =
        let now = past ++ event ∷ [] in
        subst (λ (l : Answers). RestBy c now l (served_by one x now).answers rest) (answers past)
        (subst (λ (l : Answers). RestBy c now (served_by two y past).answers l rest) (answers now) is)

    turn_alike : (past : List Event) (who : Who) (events : List Event) → IsTurn two y past who events → IsTurn one x past who events
    turn_alike past who [] is = tt
    turn_alike past who (event ∷ rest) is = (first_alike past who event is.0, rest_alike past who event rest is.1)

    turns_alike : (past : List Event) (place : ℕ) (turns : List Turn) (end : ℕ) → AreTurns two y past place turns end → AreTurns one x past place turns end
    turns_alike past place [] end are = are
    turns_alike past place (turn ∷ turns) end are =
        (are.0, are.1, turn_alike past turn.who turn.events are.2, turns_alike (past ++ turn.events) (suc are.0) turns end are.3)

    pub turned_alike : (n : ℕ) (old new : Counts) (log : List Event) → Turned two y n old new log → Turned one x n old new log
    turned_alike n old new log turned = record {
      turns = turned.turns;
      many = turned.many;
      end = turned.end;
      made = turns_alike [] 0 turned.turns turned.end turned.made;
      idles = turned.idles;
      logged = turned.logged;
    }

    cut_alike : (past : List Event) (place : ℕ) (events : List Event) → IsCut two y past place events → IsCut one x past place events
    cut_alike past place [] is = tt
    cut_alike past place (event ∷ []) is = (is.0, is.1, is.2, first_alike past is.1 event is.3)
    cut_alike past place (event ∷ more ∷ rest) is = is

    pub short_alike : (n : ℕ) (log : List Event) → CutShort two y n log → CutShort one x n log
    short_alike n log short = record {
      turns = short.turns;
      fewer = short.fewer;
      end = short.end;
      made = turns_alike [] 0 short.turns short.end short.made;
      cut = short.cut;
      is_cut = cut_alike (logged_by short.turns) short.end short.cut short.is_cut;
      logged = short.logged;
    }

    pub fewer_alike : (n : ℕ) (log : List Event) → IsFewer two y n log → IsFewer one x n log
    fewer_alike n log fewer = record {
      turns = fewer.turns;
      fewer = fewer.fewer;
      end = fewer.end;
      made = turns_alike [] 0 fewer.turns fewer.end fewer.made;
      logged = fewer.logged;
    }

    pub counted_alike : (n : ℕ) (old new : Counts) (requests hits : ℕ) (log : List Event) → Served two y n old new requests hits log → Served one x n old new requests hits log
    counted_alike n old new requests hits log served = record {
      turned = turned_alike n old new log served.turned;
      requests_counted = served.requests_counted ∙ ap requests_in (answers log);
      hits_counted = served.hits_counted ∙ ap hits_in (answers log);
    }

    -- ---- what a crash leaves

    pub survives_alike : (stands_one : Files → X → Type 0) (stands_two : Files → Y → Type 0) (files : Files) → ((x : X) (y : Y) → stands_for x y → stands_two files y → stands_one files x)
        → (log : List Event) → Survives two y stands_two log files → Survives one x stands_one log files
    survives_alike stands_one stands_two files stand log survives =
        let commands = (serve_alike stands_for one two same x y here log).commands in
        record {
          kept = survives.kept;
          stands_for = subst (λ (l : Answers). stands_one files (state_after one x (take survives.kept (commands_in l)))) (answers log)
              (stand _ _ (leads_alike x y here (take survives.kept (commands_in (served_by two y log).answers))) survives.stands_for);
          counted = ⊎_elim (λ all. inl (sym commands ∙ all)) (λ fewer. inr (sym commands ∙ fewer)) survives.counted;
          acknowledged = λ channel. subst (λ (l : Answers). All (λ (a : Answer C). a.commands ≤ survives.kept) (acknowledged_to channel log l)) (answers log) (survives.acknowledged channel);
          shown = fronts_alike log survives.shown;
        }
