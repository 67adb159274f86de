-- Nothing was looked at, and no head is known.
use Rattle.std.proofs.Common.{refl, arith}
use Rattle.ox_http.specs.First.{head_length}
use Rattle.ox_session.proofs.stream.Stream.new.Goals as goal

pub invariant_of-result : goal.invariant_of-result
unfolding head_length
invariant_of-result c = (omega arith, refl, λ known e. absurd (let none : ⊥ = cc in none))
