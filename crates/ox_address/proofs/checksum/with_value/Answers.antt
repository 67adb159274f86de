use Rattle.std.proofs.Common.{◌*◌, ◌%◌, ◌^◌, ◌<◌, ap, arith, bit_xor}
use Rattle.std.proofs.lemmas.Nat.{xor_lt}
use Rattle.ox_address.specs.Checksum.{step}
use Rattle.ox_address.proofs.checksum.with_value.Goals as goal

pub returns-clause-bounded : goal.returns-clause-bounded
returns-clause-bounded c =
    let moved : (c.args.sum % 2 ^ 25) * 32 < 2 ^ 30 = omega arith in
    let few : c.args.value < 2 ^ 30 = omega arith in
    xor_lt 30 _ _ (xor_lt 30 _ _ moved few) c.generators_at.ensures.bounded

pub returns-clause-value : goal.returns-clause-value
unfolding step
returns-clause-value c =
    ap (λ g. bit_xor (bit_xor ((c.args.sum % 2 ^ 25) * 32) c.args.value) g) c.generators_at.ensures.value
