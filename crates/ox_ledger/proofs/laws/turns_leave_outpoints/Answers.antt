use Rattle.ox_ledger.proofs.LeaveLemmas.{leaves_at, leaves_last}
use Rattle.ox_ledger.proofs.laws.turns_leave_outpoints.Goals as goal

pub returns : goal.returns
returns c = record { turn = leaves_at; block = leaves_last }
