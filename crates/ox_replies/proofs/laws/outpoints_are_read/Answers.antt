use Rattle.ox_replies.proofs.Read.{outpoint_read, outpoint_written, outpoint_within}
use Rattle.ox_replies.proofs.laws.outpoints_are_read.Goals as goal

pub returns-clause-written : goal.returns-clause-written
returns-clause-written c = outpoint_written

pub returns-clause-read : goal.returns-clause-read
returns-clause-read c = outpoint_read

pub returns-clause-within : goal.returns-clause-within
returns-clause-within c = outpoint_within
