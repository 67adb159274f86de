use Rattle.std.proofs.Common.{inr}
use Rattle.ox_sat.proofs.Epochs.{counts}
use Rattle.ox_sat.proofs.Letters.{name_of-is}
use Rattle.ox_sat.proofs.Numbers.{one_satoshi}
use Rattle.ox_sat.proofs.spellings.spellings_read_back.Goals as goal

pub returns-clause-name : goal.returns-clause-name
returns-clause-name c = λ sat h. inr (inr (name_of-is c.args.p.now sat (counts c.args.p.now c.requires) h))

pub returns-clause-one : goal.returns-clause-one
returns-clause-one c = λ text a b x y. one_satoshi c.args.p.now text a b (counts c.args.p.now c.requires) x y
