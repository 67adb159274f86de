use Rattle.ox_asof.proofs.Hashes.{hash_found}
use Rattle.ox_asof.proofs.paths.hash_in.Goals as goal

pub returns : goal.returns
returns c = hash_found c.args.digits.now c.hash.result c.hash.ensures.read c.hash.ensures.long c.hash.ensures.bytes c.hash.ensures.none
