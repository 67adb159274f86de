use Rattle.std.proofs.Common.{sym, subst}
use Rattle.ox_sat.specs.Heights.{first_at}
use Rattle.ox_sat.specs.Profiles.{profile_named}
use Rattle.ox_sat.specs.declared.profiles.ProfileName.TheVariants.{Regtest}
use Rattle.ox_transfer.specs.Apart.{HoldsOnce}
use Rattle.ox_transfer.proofs.Once.{empty_once}
use Rattle.ox_part_tests.proofs.inscribe.fresh.Goals as goal

pub returns : goal.returns
returns c = subst (HoldsOnce (first_at (profile_named Regtest) 0)) (sym c.new.ensures.rows) (empty_once (first_at (profile_named Regtest) 0))
