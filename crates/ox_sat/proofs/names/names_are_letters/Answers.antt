use Rattle.ox_sat.proofs.Epochs.{counts}
use Rattle.ox_sat.proofs.Letters.{name_of-is, name_of-only}
use Rattle.ox_sat.proofs.names.names_are_letters.Goals as goal

pub returns : goal.returns
returns c = record { letters = λ sat h. name_of-is c.args.p.now sat (counts c.args.p.now c.requires) h; only = name_of-only c.args.p.now }
