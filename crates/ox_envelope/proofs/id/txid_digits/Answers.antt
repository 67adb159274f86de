use Rattle.std.proofs.Common.{◌≡◌, ◌∙◌, ap, reverse, arith}
use Rattle.std.proofs.lemmas.List.{length-reverse}
use Rattle.std.proofs.lemmas.Grind.{common_steps}
use Rattle.hex.specs.Hex.{IsBytes, encode_lower, decode_sized}
use Rattle.hex.proofs.HexLemmas.{decode_sized-encode_lower}
use Rattle.ox_envelope.proofs.IdLemmas.{IsBytes-reverse}
use Rattle.ox_envelope.proofs.id.txid_digits.Goals as goal

pub returns-clause-again : goal.returns-clause-again
returns-clause-again c =
    let txid = c.args.txid.now in
    let bytes : IsBytes txid = λ i. omega (arith, c.type_inv.txid i) in
    let digits : c.encode_to_slice.new.output ≡ encode_lower (reverse txid) = grind (arith, common_steps) in
    ap (λ digits. decode_sized digits 32) digits ∙ decode_sized-encode_lower (reverse txid) 32 (length-reverse txid ∙ c.requires) (IsBytes-reverse txid bytes)
