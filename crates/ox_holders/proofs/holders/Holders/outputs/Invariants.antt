use Rattle.std.proofs.Common.{◌≡◌, ◌++◌}
use Rattle.std.specs.List.{filter}
use Rattle.ox_holders.specs.Keys.{outpoints_in}
use Rattle.ox_holders.proofs.Scripts.{has_script}
use Rattle.ox_holders.proofs.holders.Holders.outputs.Given as goal

-- those so far and those that are left are all
abbrev pub invariant-loop-key : goal.invariant-loop-key
invariant-loop-key l = l.found ++ outpoints_in l.key-iterator ≡ outpoints_in (filter (has_script l.script) l.self.keys.keys)
