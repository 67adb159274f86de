use Rattle.ox_files.proofs.DownLemmas.{leads}
use Rattle.ox_files.proofs.changes_lead_down.Goals as goal

pub returns : goal.returns
returns c = λ p index changes. leads p index changes
