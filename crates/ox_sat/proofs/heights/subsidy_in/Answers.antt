use Rattle.std.proofs.Common.{sym, arith}
use Rattle.ox_sat.proofs.Epochs.{nothing_after}
use Rattle.ox_sat.proofs.heights.subsidy_in.Goals as goal

pub returns-else-epoch-lt-EPOCHS-clause-value : goal.returns-else-epoch-lt-EPOCHS-clause-value
returns-else-epoch-lt-EPOCHS-clause-value c = sym (nothing_after c.args.epoch (omega arith))
