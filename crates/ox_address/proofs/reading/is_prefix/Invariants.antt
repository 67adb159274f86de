use Rattle.std.proofs.Common.{◌≡◌, map, take}
use Rattle.ox_address.specs.Passes.{small}
use Rattle.ox_address.proofs.reading.is_prefix.Given as goal

abbrev pub invariant-loop-place : goal.invariant-loop-place
invariant-loop-place l = map (small l.is_capital) (take l.place l.text) ≡ take l.place l.hrp
