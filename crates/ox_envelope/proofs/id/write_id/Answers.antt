use Rattle.std.proofs.Common.{◌≡◌, ◌+◌, ◌<◌, ◌≤◌, ◌^◌, length, arith, ◌∙◌}
use Rattle.ox_envelope.proofs.IdLemmas.{drop_past, id_of_text-id_text}
use Rattle.ox_envelope.proofs.id.write_id.Goals as goal

pub returns-clause-rest : goal.returns-clause-rest
returns-clause-rest c =
    let count = length c.as_bytes-index.result.now in
    let last : 65 ≤ 65 + count = omega arith in
    let digits : 0 + length c.txid_digits-digits.result ≤ 65 + count = omega arith in
    c.write_at-3.ensures.back ∙ drop_past 65 (65 + count) _ _ last c.write_at-2.ensures.back ∙ drop_past _ (65 + count) _ _ digits c.write_at.ensures.back

pub returns-clause-again : goal.returns-clause-again
returns-clause-again c =
    let size : length c.args.id.now.txid ≡ 32 = omega arith in
    let small : c.args.id.now.index < 2 ^ 32 = omega arith in
    id_of_text-id_text c.args.id.now c.txid_digits-digits.result c.txid_digits-digits.ensures.digits c.txid_digits-digits.ensures.again size small
