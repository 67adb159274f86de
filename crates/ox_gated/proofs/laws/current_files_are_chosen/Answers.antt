use Rattle.ox_gated.proofs.Picking.{picked, picks}
use Rattle.ox_gated.proofs.laws.current_files_are_chosen.Goals as goal

pub returns : goal.returns
returns c = λ files file opening. (picked files (file, opening), picks files file opening)
