use Rattle.std.proofs.Common.{ℕ, ◌+◌, List, ◌++◌, take}
use Rattle.ox_address.specs.Digits.{digits}
use Rattle.ox_address.specs.Passes.{Wrote}
use Rattle.ox_address.proofs.writing.put_six.Given as goal

abbrev pub invariant-loop-place : goal.invariant-loop-place
invariant-loop-place l =
    (hrp symbols before : List ℕ) → Wrote hrp symbols before l.initial.into l.len →
    Wrote hrp (symbols ++ take l.place (digits 32 6 l.number)) before l.into (l.len + l.place)
