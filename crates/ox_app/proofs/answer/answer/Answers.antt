use Rattle.std.proofs.Common.{refl}
use Rattle.std.specs.Prelude.{Ok, Err}
use Rattle.ox_index.specs.Chain.{stack_in}
use Rattle.ox_app.proofs.AskedLines.{answers_asked, command_answers}
use Rattle.ox_app.proofs.answer.answer.Goals as goal

pub returns-in_ok-answer_to-in-Some-Ok : goal.returns-in_ok-answer_to-in-Some-Ok
returns-in_ok-answer_to-in-Some-Ok c =
    let asks = rw (c.in-Some-Ok.is, c.in-Some-Ok.field-0-is) at c.in_ok-command.ensures in
    let stack = stack_in c.args.chain.now in
    let new = stack_in c.obey-outcome.new.chain in
    let answers = command_answers stack c.in-Some-Ok.command c.obey-outcome.result new c.in_ok-answer_to-in-Some-Ok.field-0 c.obey-outcome.ensures c.in_ok-answer_to-in-Some-Ok.ensures in
    answers_asked c.args.line (Ok c.in-Some-Ok.command) stack new c.in_ok-answer_to-in-Some-Ok.field-0 asks answers.0 answers.1

pub returns-in_ok-line-in-Some-Err : goal.returns-in_ok-line-in-Some-Err
returns-in_ok-line-in-Some-Err c =
    let asks = rw (c.in-Some-Err.is, c.in-Some-Err.field-0-is) at c.in_ok-command.ensures in
    let stack = stack_in c.args.chain.now in
    answers_asked c.args.line (Err c.in-Some-Err.refusal) stack stack c.in_ok-line-in-Some-Err.field-0 asks c.in_ok-line-in-Some-Err.ensures refl
