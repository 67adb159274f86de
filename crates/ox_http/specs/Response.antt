-- A written reply, as the grammar of `httparse` reads it.
use Rattle.std.specs.Prelude.{◌≡◌, ◌≢◌, ℕ, ◌<◌, ◌^◌, Bool, true, false, List, [], ◌∷◌, ◌++◌}
use Rattle.std.specs.Prelude.{Option, Some, None, length, map, codes, decimal}
use Rattle.std.specs.Option.{ForSome}
use Rattle.httparse.specs.Grammar.{AllPass, ResponseHead, is_value_byte, reason_phrase}
use Rattle.httparse.specs.Grammar.{status_code, trim_ows}
use Rattle.httparse.specs.Spans.{name_and_value}
use Rattle.ox_http.specs.declared.Reply.{Reply}
use Rattle.ox_http.specs.Head.{NameAndValue}
use Rattle.ox_http.specs.Written.{phrase_of}

abbrev pub encoding_fields : Option (List ℕ) → List NameAndValue
encoding_fields None = []
encoding_fields (Some encoding) = (codes "Content-Encoding", trim_ows encoding) ∷ []

abbrev pub close_fields : Bool → List NameAndValue
close_fields true = (codes "Connection", codes "close") ∷ []
close_fields false = []

-- the fields of a reply: its kind and its encoding without white space around them, the number of
-- its body's bytes, and whether the link ends
abbrev pub reply_fields : Reply → List NameAndValue
reply_fields reply =
    (codes "Content-Type", trim_ows reply.kind) ∷ encoding_fields reply.encoding
    ++ (codes "Content-Length", decimal (length reply.body)) ∷ close_fields reply.close

-- a reply whose status has a phrase, whose kind and encoding are printable, and whose body's length
-- is a number of 64 bits
pub record IsPrintable (reply : Reply) : Type 0 where
  pub phrase : phrase_of reply.status ≢ []
  pub kind : AllPass is_value_byte reply.kind
  pub encoding : ForSome reply.encoding (AllPass is_value_byte)
  pub body : length reply.body < 2 ^ 64

-- a response head of HTTP/1.1 has the status of a reply, its phrase and its fields
pub record Heads (head : ResponseHead) (reply : Reply) : Type 0 where
  pub minor : head.minor ≡ 1
  pub status : status_code head ≡ reply.status
  pub phrase : reason_phrase head.reason ≡ phrase_of reply.status
  pub fields : map name_and_value head.fields ≡ reply_fields reply
