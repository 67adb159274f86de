-- What reading a block answers.
use Rattle.std.specs.Prelude.{◌≡◌, ℕ, Option, Some, None, Result, Ok, Err}
use Rattle.ox_block.specs.declared.block.Block.{Block}
use Rattle.ox_block.specs.declared.fault.BlockFault.{BlockFault}
use Rattle.ox_block.specs.declared.fault.BlockFault.TheVariants.{Malformed, Memory}

-- What the call returned is what reading on lists gives, unless memory ran out.
abbrev pub Gives : Result Block BlockFault → Result Block ℕ → Type 0
Gives (Ok block) read = read ≡ Ok block
Gives (Err Memory) read = Unit {0}
Gives (Err (Malformed place)) read = read ≡ Err place

-- The call reports this fault: none where it gives a block. Out of memory it says nothing.
abbrev pub Tells : Result Block BlockFault → Option ℕ → Type 0
Tells (Ok block) fault = fault ≡ None
Tells (Err Memory) fault = Unit {0}
Tells (Err (Malformed place)) fault = fault ≡ Some place
