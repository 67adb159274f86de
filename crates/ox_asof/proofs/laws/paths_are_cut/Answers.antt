use Rattle.ox_asof.proofs.Hashes.{path_read, path_written}
use Rattle.ox_asof.proofs.laws.paths_are_cut.Goals as goal

pub returns : goal.returns
returns c = record {
  written = path_written;
  read = λ whole path hash is. (path_read whole path hash is).is;
}
