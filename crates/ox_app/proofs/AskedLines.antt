-- A line is answered where what it asks for is.
use Rattle.std.proofs.Common.{◌≡◌, ◌∙◌, List, ℕ, Some, None, refl, sym, ap}
use Rattle.std.specs.Prelude.{Result, Ok, Err}
use Rattle.ox_feed.specs.declared.command.Command.{Command}
use Rattle.ox_feed.specs.declared.lines.Line.{Line}
use Rattle.ox_feed.specs.declared.lines.Line.TheVariants.{Text, Long, End}
use Rattle.ox_rules.specs.declared.refusal.Refusal.{Refusal}
use Rattle.ox_model.specs.Replies.{after_turn, index_on, reply_by}
use Rattle.ox_model.specs.Stack.{Stack, stack_after}
use Rattle.ox_rules.specs.declared.why.Why.{Why}
use Rattle.ox_rules.specs.declared.why.Why.TheVariants.{Refused, Memory}
use Rattle.ox_app.specs.Apply.{after_line}
use Rattle.ox_app.specs.Fold.{AnswersLine, AsksFor, IsAnswer, Obeys, turn_by}

-- a line is answered as what it asks for is
pub answers_asked : (line : Line) (asked : Result Command Refusal) (stack new : Stack) (answer : List ℕ) → AsksFor line (Some asked)
    → answer ≡ reply_by index_on (turn_by stack asked) → new ≡ after_turn stack (turn_by stack asked) → AnswersLine line stack (Some answer) new
answers_asked (Text l) asked stack new answer asks says leaves = record {
  says = ap Some (says ∙ ap (reply_by index_on) (sym (asks stack)));
  leaves = leaves ∙ ap (after_turn stack) (sym (asks stack));
}
answers_asked Long asked stack new answer asks says leaves = record {
  says = ap Some (says ∙ ap (reply_by index_on) (sym (asks stack)));
  leaves = leaves ∙ ap (after_turn stack) (sym (asks stack));
}
answers_asked End asked stack new answer asks says leaves = absurd asks

pub answers_none : (line : Line) (stack new : Stack) → AsksFor line None → AnswersLine line stack None new
answers_none (Text l) stack new asks = cc asks
answers_none Long stack new asks = cc asks
answers_none End stack new asks = refl

-- the stack after a line that asks so
pub after_asked : (line : Line) (asked : Result Command Refusal) (stack : Stack) → AsksFor line (Some asked) → after_turn stack (turn_by stack asked) ≡ after_line stack line
after_asked (Text l) asked stack asks = ap (after_turn stack) (sym (asks stack))
after_asked Long asked stack asks = ap (after_turn stack) (sym (asks stack))
after_asked End asked stack asks = absurd asks

-- a command in memory and its answer
pub command_answers : (stack : Stack) (command : Command) (outcome : Result (Unit {0}) Why) (new : Stack) (answer : List ℕ) → Obeys stack command outcome new
    → IsAnswer outcome new answer → (answer ≡ reply_by index_on (stack_after stack command)) × (new ≡ after_turn stack (stack_after stack command))
command_answers stack command (Ok done) new answer obeys is = rw obeys (is, refl)
command_answers stack command (Err (Refused refusal)) new answer obeys is = rw obeys.0 (is, obeys.1)
command_answers stack command (Err Memory) new answer obeys is = absurd is
