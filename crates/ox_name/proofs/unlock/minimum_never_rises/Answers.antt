use Rattle.ox_name.proofs.LeastNameFalls.{least-falls, least-at_start}
use Rattle.ox_name.proofs.unlock.minimum_never_rises.Goals as goal

pub returns : goal.returns
returns c = record { later = least-falls; at_start = least-at_start }
