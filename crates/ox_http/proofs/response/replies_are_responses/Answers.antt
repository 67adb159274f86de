-- The head that is written, and that no other one is read.
use Rattle.ox_http.proofs.Responses.{reply_only, reply_reads}
use Rattle.ox_http.proofs.response.replies_are_responses.Goals as goal

pub returns : goal.returns
returns c = record { read = reply_reads; only = reply_only }
