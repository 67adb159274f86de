use Rattle.std.proofs.Common.{◌≡◌, ◌-◌}
use Rattle.ox_block.specs.Witness.{behind_strings}
use Rattle.ox_block.proofs.witness.behind_strings.Given as goal

-- what stands behind those to come is what stands behind all
abbrev pub invariant-loop : goal.invariant-loop
invariant-loop l = behind_strings (l.count - l.counter) l.rest ≡ behind_strings l.fn.count l.fn.bytes
