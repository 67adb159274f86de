use Rattle.ox_gated.proofs.ChangedFiles.{changed}
use Rattle.ox_gated.proofs.laws.changed_bytes_are_found.Goals as goal

pub returns : goal.returns
returns c = changed
