use Rattle.ox_replies.proofs.Escapes.{escape_read, other_read}
use Rattle.ox_replies.proofs.laws.escapes_are_spacers.Goals as goal

pub returns-clause-escape : goal.returns-clause-escape
returns-clause-escape c = escape_read

pub returns-clause-other : goal.returns-clause-other
returns-clause-other c = other_read
