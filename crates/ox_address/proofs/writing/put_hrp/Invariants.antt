use Rattle.std.proofs.Common.{◌≡◌, ◌++◌, take, drop}
use Rattle.ox_address.proofs.writing.put_hrp.Given as goal

abbrev pub invariant-loop-place : goal.invariant-loop-place
invariant-loop-place l = l.into ≡ take l.place l.hrp ++ drop l.place l.initial.into
