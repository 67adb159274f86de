use Rattle.ox_replies.proofs.RuneIds.{rune_id_read, rune_id_within, rune_id_written}
use Rattle.ox_replies.proofs.laws.rune_ids_are_read.Goals as goal

pub returns-clause-written : goal.returns-clause-written
returns-clause-written c = rune_id_written

pub returns-clause-read : goal.returns-clause-read
returns-clause-read c = rune_id_read

pub returns-clause-within : goal.returns-clause-within
returns-clause-within c = rune_id_within
