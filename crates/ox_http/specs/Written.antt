-- A reply as bytes (RFC 9112, section 4).
use Rattle.std.specs.Prelude.{ℕ, ◌==◌, Bool, true, false, List, [], ◌++◌, length, codes, decimal}
use Rattle.std.specs.Prelude.{◌≡◌, ◌+◌, ◌≤◌, Option, Some, None, if◌then◌else◌}
use Rattle.ox_bytes.specs.Place.{Space}
use Rattle.std.specs.Option.{option_copied}
use Rattle.ox_http.specs.declared.Reply.{Reply}
use Rattle.ox_http.specs.declared.writer.ReplyParts.{ReplyParts}

-- the end of a line
abbrev pub crlf : List ℕ
crlf = codes "\r\n"

-- the phrase of a status (RFC 9110, section 15), empty where a reply never has the status
abbrev pub phrase_of : ℕ → List ℕ
phrase_of status =
    if status == 200 then codes "OK"
    else if status == 400 then codes "Bad Request"
    else if status == 403 then codes "Forbidden"
    else if status == 404 then codes "Not Found"
    else if status == 405 then codes "Method Not Allowed"
    else if status == 409 then codes "Conflict"
    else if status == 411 then codes "Length Required"
    else if status == 413 then codes "Content Too Large"
    else if status == 431 then codes "Request Header Fields Too Large" else []

abbrev pub status_line : ℕ → List ℕ
status_line status =
    codes "HTTP/1.1 " ++ decimal status ++ codes " " ++ phrase_of status ++ crlf

abbrev pub kind_line : List ℕ → List ℕ
kind_line kind = codes "Content-Type: " ++ kind ++ crlf

abbrev pub encoding_line : Option (List ℕ) → List ℕ
encoding_line None = []
encoding_line (Some encoding) = codes "Content-Encoding: " ++ encoding ++ crlf

abbrev pub length_line : ℕ → List ℕ
length_line n = codes "Content-Length: " ++ decimal n ++ crlf

abbrev pub close_line : Bool → List ℕ
close_line true = codes "Connection: close\r\n"
close_line false = []

-- the lines in front of a body of n bytes, with the empty one
abbrev pub written_head : ℕ → List ℕ → Option (List ℕ) → ℕ → Bool → List ℕ
written_head status kind encoding n close =
    status_line status ++ kind_line kind ++ encoding_line encoding ++ length_line n
    ++ close_line close ++ crlf

-- the bytes of a reply
unfoldable pub written : Reply → List ℕ
written reply =
    written_head reply.status reply.kind reply.encoding (length reply.body) reply.close
    ++ reply.body

-- the reply that has borrowed parts, and with which the link ends or not
abbrev pub reply_of : ReplyParts → Bool → Reply
reply_of parts close = record {
  status = parts.status;
  kind = parts.kind.now;
  encoding = option_copied parts.encoding;
  body = parts.body.now;
  close = close;
}

-- the bytes of an encoding, if there is one
abbrev pub encoding_length : Option (List ℕ) → ℕ
encoding_length None = 0
encoding_length (Some encoding) = length encoding

-- the most bytes that a reply has: beside its kind, encoding and body never more than 143
abbrev pub most_written : Reply → ℕ
most_written reply =
    143 + length reply.kind + encoding_length reply.encoding + length reply.body

-- bytes are put at a place's end, into at most so many of the spare ones
pub record Puts (bytes : List ℕ) (most : ℕ) (old new : Space ℕ) : Type 0 where
  pub filled : new.filled ≡ old.filled ++ bytes
  pub spare : old.spare ≤ new.spare + most

-- the reply to a fault, with which the link ends
abbrev pub fault_reply : ℕ → Reply
fault_reply status = record {
  status = status;
  kind = codes "application/json";
  encoding = None;
  body = codes "{\"error\":" ++ decimal status ++ codes "}";
  close = true;
}

-- the reply to a request that there is no memory for, with which the link ends
abbrev pub unavailable : List ℕ
unavailable =
    codes "HTTP/1.1 503 Service Unavailable\r\nContent-Length: 0\r\nConnection: close\r\n\r\n"
