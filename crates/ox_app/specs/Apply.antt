-- A run over a feed and a store, line by line.
use Rattle.std.specs.Prelude.{◌≡◌, ◌⊎◌, ℕ, List, Option, Some, None, Result, Ok}
use Rattle.ox_outside.specs.Event.{Event, heard_bytes}
use Rattle.ox_outside.specs.Files.{Files}
use Rattle.ox_feed.specs.Feed.{Feed, FeedLine, text, too_long, GivesLine, Hears, IsDone, Listens}
use Rattle.ox_feed.specs.declared.lines.Line.{Line}
use Rattle.ox_feed.specs.declared.lines.Line.TheVariants.{Text, Long, End}
use Rattle.ox_model.specs.Replies.{after_turn}
use Rattle.ox_model.specs.Stack.{Stack, turn_on}
use Rattle.ox_files.specs.Stands.{stands}
use Rattle.ox_app.specs.Fold.{AnswersLine, LineDone, NextLine}
use Rattle.ox_app.specs.declared.carry.CarriedLine.{CarriedLine}
use Rattle.ox_app.specs.declared.stop.Stop.{Stop}

-- the stack after a line of a feed; its end leaves the stack as it is
abbrev pub after_line : Stack → Line → Stack
after_line stack (Text line) = after_turn stack (turn_on stack (text line))
after_line stack Long = after_turn stack (turn_on stack too_long)
after_line stack End = stack

-- a line is carried out and answered; the end isn't answered
abbrev pub CarriesOut : Line → Stack → Option CarriedLine → Type 0
CarriesOut line stack (Some carried) =
    AnswersLine line stack (Some carried.answer) carried.store.stack
CarriesOut line stack None = line ≡ End

-- a line comes next and was carried out, or all lines are answered
abbrev pub ComesCarried : Option CarriedLine → Feed → Stack → List ℕ → Feed → Type 0
ComesCarried (Some carried) lines stack heard lines' =
    NextLine lines stack carried.answer heard lines' carried.store.stack
ComesCarried None lines stack heard lines' = IsDone lines heard lines'

-- one line is heard and carried out
abbrev pub CarriesOutNext : Feed → Stack → Result (Option CarriedLine) Stop → Feed → List Event
    → Type 0
CarriesOutNext lines stack result lines' =
    LineDone (λ carried heard. ComesCarried carried lines stack heard lines') lines result lines'

-- the line was heard whole, and the files stand for the stack after it
pub record HearsWhole (lines : Feed) (stack : Stack) (lines' : Feed) (files : Files)
    (events : List Event) : Type 0 where
  pub line : FeedLine
  pub hears : Hears lines lines' events
  pub comes : GivesLine line lines (heard_bytes 0 events) lines'
  pub stands_for : stands files ≡ Ok (after_turn stack (turn_on stack line))

-- what a crash leaves while a line is heard and carried out: files that stand for the stack before
-- it; or, once it was heard whole, for the stack after it
abbrev pub DuringLine : Feed → Stack → Feed → Files → List Event → Type 0
DuringLine lines stack lines' files events =
    (Listens lines events × (stands files ≡ Ok stack)) ⊎ HearsWhole lines stack lines' files events
