use Rattle.ox_app.proofs.Subcommands.{number_text}
use Rattle.ox_app.proofs.subcommand.number_in.Goals as goal

pub returns-in-Err-clause-only : goal.returns-in-Err-clause-only
returns-in-Err-clause-only c = λ n fits written. c.in-Err.ensures.cases.0 (number_text c.args.most n c.args.word.now c.ranges.most.fits fits written)
