-- What a call that connects or takes back answers against what the definition does. Running out of
-- memory is free, and nothing else.
use Rattle.std.specs.Prelude.{◌≡◌, Result, Err}
use Rattle.ox_block.specs.declared.fault.BlockFault.{BlockFault}
use Rattle.ox_block.specs.declared.fault.BlockFault.TheVariants.{Malformed as BadBlock}
use Rattle.ox_block.specs.declared.fault.BlockFault.TheVariants.{Memory as NoMemory}
use Rattle.ox_rules.specs.declared.refusal.Refusal.{Refusal}
use Rattle.ox_rules.specs.declared.refusal.Refusal.TheVariants.{Malformed}
use Rattle.ox_rules.specs.declared.why.Why.{Why}
use Rattle.ox_rules.specs.declared.why.Why.TheVariants.{Refused, Memory}

-- the refusal is the definition's
abbrev pub Refuses : {Y : Type 0} → Why → Result Y Refusal → Type 0
Refuses (Refused refusal) wanted = wanted ≡ Err refusal
Refuses Memory wanted = Unit {0}

-- what a fault of reading a block is for the command
abbrev pub of_block : BlockFault → Why
of_block (BadBlock at) = Refused (Malformed at)
of_block NoMemory = Memory
