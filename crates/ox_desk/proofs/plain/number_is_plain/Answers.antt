use Rattle.std.proofs.Common.{arith}
use Rattle.ox_desk.proofs.Escapes.{plain_decimal}
use Rattle.ox_desk.proofs.plain.number_is_plain.Goals as goal

pub returns : goal.returns
returns c = plain_decimal c.args._number (omega (arith, c.ranges._number.fits))
