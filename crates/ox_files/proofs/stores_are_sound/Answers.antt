use Rattle.ox_files.proofs.FilesOfStacks.{stands_for_sound}
use Rattle.ox_files.proofs.stores_are_sound.Goals as goal

pub returns : goal.returns
returns c = stands_for_sound
