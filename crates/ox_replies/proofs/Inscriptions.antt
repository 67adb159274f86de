-- An inscription is found by its id's text.
use Rattle.std.proofs.Common.{◌≡◌, ◌<◌, ◌^◌, List, length, reverse, refl, ap, ◌∙◌}
use Rattle.std.specs.Option.{option_and_then}
use Rattle.std.proofs.lemmas.List.{length-reverse}
use Rattle.hex.specs.Hex.{IsBytes, encode_lower}
use Rattle.hex.proofs.HexLemmas.{decode_sized-encode_lower}
use Rattle.ox_envelope.specs.Id.{id_text}
use Rattle.ox_envelope.specs.declared.id.InsId.{InsId}
use Rattle.ox_envelope.proofs.IdLemmas.{IsBytes-reverse, id_of_text-id_text}
use Rattle.ox_inscribe.specs.Inscriptions.{find}
use Rattle.ox_inscribe.specs.declared.row.InsRow.{InsRow}
use Rattle.ox_replies.specs.Named.{inscription_named}

pub id_named : (rows : List InsRow) (id : InsId) → length id.txid ≡ 32 → IsBytes id.txid → id.index < 2 ^ 32 → inscription_named rows (id_text id) ≡ find rows id
id_named rows id long bytes small =
    let read = decode_sized-encode_lower (reverse id.txid) 32 (length-reverse id.txid ∙ long) (IsBytes-reverse id.txid bytes) in
    ap (option_and_then (find rows)) (id_of_text-id_text id (encode_lower (reverse id.txid)) refl read long small)
