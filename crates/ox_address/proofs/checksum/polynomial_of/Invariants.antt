use Rattle.std.proofs.Common.{◌≡◌, ◌/◌, ◌%◌, ◌^◌, ◌<◌, ◌++◌, ◌∷◌, map, take}
use Rattle.std.specs.Prelude.{fold}
use Rattle.ox_address.specs.Checksum.{step}
use Rattle.ox_address.proofs.checksum.polynomial_of.Given as goal

abbrev pub invariant-loop-letter : goal.invariant-loop-letter
invariant-loop-letter l =
    (l.sum ≡ fold step 1 (map (λ c. c / 32) (take l.letter-index l.hrp))) × (l.sum < 2 ^ 30)

abbrev pub invariant-loop-letter-2 : goal.invariant-loop-letter-2
invariant-loop-letter-2 l =
    (l.sum ≡ fold step 1 (map (λ c. c / 32) l.hrp ++ 0 ∷ map (λ c. c % 32) (take l.letter-index l.hrp)))
    × (l.sum < 2 ^ 30)
