use Rattle.std.proofs.Common.{◌/◌, ◌%◌, ◌++◌, ◌∷◌, map, ap, ◌∙◌, arith}
use Rattle.std.specs.Prelude.{fold}
use Rattle.std.proofs.lemmas.List.{take_all}
use Rattle.ox_address.specs.Checksum.{step, polynomial, expanded}
use Rattle.ox_address.proofs.checksum.polynomial_of.Goals as goal

pub returns-clause-value : goal.returns-clause-value
unfolding polynomial expanded
returns-clause-value c =
    c.loop-letter-2.invariant.0
    ∙ ap (λ ls. fold step 1 (map (λ c. c / 32) c.args.hrp.now ++ 0 ∷ map (λ c. c % 32) ls))
    (take_all c.loop-letter-2.letter-index c.args.hrp.now (omega arith))
