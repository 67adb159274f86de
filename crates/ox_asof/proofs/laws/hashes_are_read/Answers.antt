use Rattle.ox_asof.proofs.Hashes.{hash_read, hash_written}
use Rattle.ox_asof.proofs.laws.hashes_are_read.Goals as goal

pub returns : goal.returns
returns c = record {
  written = hash_written;
  read = λ text hash is. (hash_read text hash is).is;
  within = λ text hash is. (hash_read text hash is).long;
}
