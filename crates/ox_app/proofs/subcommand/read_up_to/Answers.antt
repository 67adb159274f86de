use Rattle.std.proofs.Common.{arith}
use Rattle.ox_app.proofs.Subcommands.{none_within}
use Rattle.ox_app.proofs.subcommand.read_up_to.Goals as goal

pub returns-in_default-clause-only : goal.returns-in_default-clause-only
returns-in_default-clause-only c =
    none_within c.args.most c.in-Some.number c.args.text.now c.ranges.most.fits c.in-Some.ensures.small c.in-Some.ensures.reads (λ fits. omega (arith, fits.few, c.if-number-most.false))

pub returns-in_default-2-clause-only : goal.returns-in_default-2-clause-only
returns-in_default-2-clause-only c =
    none_within c.args.most c.in-Some.number c.args.text.now c.ranges.most.fits c.in-Some.ensures.small c.in-Some.ensures.reads (λ fits. omega (arith, fits.some, c.if-number-ge1.false))
