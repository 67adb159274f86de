use Rattle.ox_sat.proofs.Epochs.{counts, first_late, first_most}
use Rattle.ox_sat.proofs.heights.supply_is_minted.Goals as goal

pub returns-clause-all : goal.returns-clause-all
returns-clause-all c = λ height late. first_late c.args.p.now height (counts _ c.requires) late

pub returns-clause-most : goal.returns-clause-most
returns-clause-most c = λ height. first_most c.args.p.now height (counts _ c.requires)
