-- A run over a feed, part by part.
use Rattle.std.specs.Prelude.{◌≡◌, ℕ, List, Option, Some, None}
use Rattle.std.specs.Prelude.{Result, Ok, Err, IfOk}
use Rattle.ox_outside.specs.Event.{Event, heard_bytes}
use Rattle.ox_feed.specs.Feed.{Feed, FeedLine, text, too_long, GivesLine, Hears, IsDone}
use Rattle.ox_feed.specs.declared.command.Command.{Command}
use Rattle.ox_feed.specs.declared.lines.Line.{Line}
use Rattle.ox_feed.specs.declared.lines.Line.TheVariants.{Text, Long, End}
use Rattle.ox_feed.specs.declared.lines.FeedFault.{FeedFault}
use Rattle.ox_feed.specs.declared.lines.FeedFault.TheVariants.{HearFault as FeedHearFault}
use Rattle.ox_feed.specs.declared.lines.FeedFault.TheVariants.{TooMuch as FeedTooMuch}
use Rattle.ox_feed.specs.declared.lines.FeedFault.TheVariants.{Memory as FeedMemory}
use Rattle.ox_gated.specs.declared.fault.Halt.TheVariants as halts
use Rattle.ox_model.specs.Replies.{after_turn, index_on, ok_line, reply_by}
use Rattle.ox_model.specs.Stack.{Stack, stack_after, turn_on}
use Rattle.ox_rules.specs.Text.{refusal_line}
use Rattle.ox_rules.specs.declared.refusal.Refusal.{Refusal}
use Rattle.ox_rules.specs.declared.why.Why.{Why}
use Rattle.ox_rules.specs.declared.why.Why.TheVariants.{Refused, Memory as NoMemory}
use Rattle.ox_app.specs.declared.stop.Stop.{Stop}
use Rattle.ox_app.specs.declared.stop.Stop.TheVariants.{Halt, HearFault, TooMuch}

-- how many blocks a run without files may keep
abbrev pub fold_depth : ℕ
fold_depth = 1000

-- what a command, or a refusal, makes of a stack
abbrev pub turn_by : Stack → Result Command Refusal → Result Stack Refusal
turn_by stack (Ok command) = stack_after stack command
turn_by stack (Err refusal) = Err refusal

-- the command that a line asks for, or why it is refused: what decides its turn on every stack. The
-- end asks for nothing.
abbrev pub AsksFor : Line → Option (Result Command Refusal) → Type 0
AsksFor (Text line) (Some asked) = (stack : Stack) → turn_on stack (text line) ≡ turn_by stack asked
AsksFor Long (Some asked) = (stack : Stack) → turn_on stack too_long ≡ turn_by stack asked
AsksFor End (Some asked) = ⊥
AsksFor line None = line ≡ End

-- a command was carried out, was refused, or found no memory
abbrev pub Obeys : Stack → Command → Result (Unit {0}) Why → Stack → Type 0
Obeys stack command (Ok done) new = stack_after stack command ≡ Ok new
Obeys stack command (Err (Refused refusal)) new =
    (stack_after stack command ≡ Err refusal) × (new ≡ stack)
Obeys stack command (Err NoMemory) new = new ≡ stack

-- the line that answers
abbrev pub IsAnswer : Result (Unit {0}) Why → Stack → List ℕ → Type 0
IsAnswer (Ok done) stack line = line ≡ ok_line stack.index
IsAnswer (Err (Refused refusal)) stack line = line ≡ refusal_line refusal
IsAnswer (Err NoMemory) stack line = ⊥

-- a line is answered, and leaves this stack
pub record Replies (line : FeedLine) (stack : Stack) (answer : Option (List ℕ))
    (new : Stack) : Type 0 where
  pub says : answer ≡ Some (reply_by index_on (turn_on stack line))
  pub leaves : new ≡ after_turn stack (turn_on stack line)

-- a line is answered, the end is not
abbrev pub AnswersLine : Line → Stack → Option (List ℕ) → Stack → Type 0
AnswersLine (Text line) stack answer new = Replies (text line) stack answer new
AnswersLine Long stack answer new = Replies too_long stack answer new
AnswersLine End stack answer new = answer ≡ None

-- with these bytes heard, a line comes next, whatever is heard later, and this is its answer
pub record NextLine (lines : Feed) (stack : Stack) (answer : List ℕ) (heard : List ℕ)
    (lines' : Feed) (stack' : Stack) : Type 0 where
  pub line : FeedLine
  pub comes : GivesLine line lines heard lines'
  pub says : answer ≡ reply_by index_on (turn_on stack line)
  pub leaves : stack' ≡ after_turn stack (turn_on stack line)

-- an answer comes next, or all lines are answered
abbrev pub Comes : Option (List ℕ) → Feed → Stack → List ℕ → Feed → Stack → Type 0
Comes (Some answer) lines stack heard lines' stack' =
    NextLine lines stack answer heard lines' stack'
Comes None lines stack heard lines' stack' = IsDone lines heard lines'

-- what hearing a line and seeing to it says of the events that it logged: the bytes heard, and what
-- came with them
pub record LineDone {C : Type 0} (comes : C → List ℕ → Type 0) (lines : Feed)
    (result : Result C Stop) (lines' : Feed) (events : List Event) : Type 0 where
  pub hears : Hears lines lines' events
  pub came : IfOk result (λ what. comes what (heard_bytes 0 events))

-- one line is heard and answered
abbrev pub AnswersNext : Feed → Stack → Result (Option (List ℕ)) Stop → Feed → Stack → List Event
    → Type 0
AnswersNext lines stack result lines' stack' =
    LineDone (λ answer heard. Comes answer lines stack heard lines' stack') lines result lines'

-- why a run stops where its lines stop
abbrev pub stop_of : FeedFault → Stop
stop_of FeedHearFault = HearFault
stop_of FeedTooMuch = TooMuch
stop_of FeedMemory = Halt halts.Memory

-- there was a line, and it is answered
abbrev pub HasAnswer : Result (Option (List ℕ)) Stop → Type 0
HasAnswer (Ok (Some answer)) = Unit {0}
HasAnswer (Ok None) = ⊥
HasAnswer (Err stop) = ⊥

-- any events
abbrev pub Anything : List Event → Type 0
Anything events = Unit {0}
