use Rattle.ox_sat.proofs.Epochs.{counts, minting_is}
use Rattle.ox_sat.proofs.heights.holds_one_height.Goals as goal

pub returns : goal.returns
returns c = λ height sat m. minting_is c.args.p.now sat height (counts _ c.requires) m
