-- What has to hold of a block that is to stand on a chain, before its transactions are tested.
use Rattle.std.specs.Prelude.{◌≡◌, ℕ, List, length, false, nat_lt}
use Rattle.ox_block.specs.declared.block.Block.{Block}
use Rattle.ox_sat.specs.declared.profiles.Profile.{Profile}
use Rattle.ox_rules.specs.Newest.{newest_of}
use Rattle.ox_model.specs.Step.{differ}

-- its height is one at which the profile has a block, and it names the newest one before it
abbrev pub IsNext : Profile → List (List ℕ) → Block → Type 0
IsNext p hashes block =
    (nat_lt p.last (length hashes) ≡ false)
    × (differ block.header.previous (newest_of hashes) ≡ false)
