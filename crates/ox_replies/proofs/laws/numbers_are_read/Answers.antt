use Rattle.ox_replies.proofs.Read.{number_written, number_read, number_within}
use Rattle.ox_replies.proofs.laws.numbers_are_read.Goals as goal

pub returns-clause-written : goal.returns-clause-written
returns-clause-written c = number_written

pub returns-clause-read : goal.returns-clause-read
returns-clause-read c = number_read

pub returns-clause-within : goal.returns-clause-within
returns-clause-within c = number_within
