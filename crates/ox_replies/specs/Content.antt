-- What stands for an inscription's content, and how it is replied.
use Rattle.std.specs.Prelude.{ℕ, Bool, IsTrue, ◌&&◌, nat_le, nat_lt, List, length, codes, unwrap_or}
use Rattle.std.specs.Prelude.{Option, Some, None, IfSome, slice_get, if◌then◌else◌}
use Rattle.std.specs.List.{list_all}
use Rattle.std.specs.Option.{option_and_then, option_map, option_map_or}
use Rattle.ox_envelope.specs.declared.id.InsId.{InsId}
use Rattle.ox_http.specs.declared.Reply.{Reply}
use Rattle.ox_inscribe.specs.Inscriptions.{find}
use Rattle.ox_inscribe.specs.declared.row.InsRow.{InsRow}
use Rattle.ox_replies.specs.Named.{inscription_named}

-- the inscription with an id, if it is there
abbrev pub row_with : List InsRow → InsId → Option InsRow
row_with rows id = option_and_then (slice_get rows) (find rows id)

-- the inscription whose content is shown for this one: the one that it delegates to, if it does,
-- whatever that delegates to
abbrev pub shown_for : List InsRow → InsRow → Option InsRow
shown_for rows row = option_map_or (row_with rows) row.delegate (Some row)

-- bytes that a header of a reply can carry: one or more, all of them printable ASCII
abbrev pub is_header_text : List ℕ → Bool
is_header_text bytes =
    nat_lt 0 (length bytes) && list_all (λ b. nat_le 32 b && nat_le b 126) bytes

abbrev pub header_text : Option (List ℕ) → Option (List ℕ)
header_text None = None
header_text (Some bytes) = if is_header_text bytes then Some bytes else None

-- a body, with the kind and the encoding that its inscription says
abbrev pub body_reply : Bool → InsRow → List ℕ → Reply
body_reply close row body = record {
  status = 200;
  kind = unwrap_or (header_text row.content_type) (codes "application/octet-stream");
  encoding = header_text row.encoding;
  body = body;
  close = close;
}

-- what is shown for an inscription, if it has a body
abbrev pub shown_reply : Bool → InsRow → Option Reply
shown_reply close row = option_map (body_reply close row) row.body

-- the content of the inscription that a text names, if it has one
abbrev pub content_at : List InsRow → List ℕ → Bool → Option Reply
content_at rows text close =
    option_and_then (shown_reply close)
    (option_and_then (shown_for rows)
    (option_and_then (slice_get rows) (inscription_named rows text)))

-- the kind and the encoding of a reply can stand in its head: they end no line there
pub record FitsHead (reply : Reply) : Type 0 where
  pub kind : IsTrue (is_header_text reply.kind)
  pub encoding : IfSome reply.encoding (λ encoding. IsTrue (is_header_text encoding))
