-- The head of a request (RFC 9112, sections 2 to 5): a start line, fields, and an empty line.
use Rattle.std.specs.Prelude.{ℕ, ◌==◌, ◌&&◌, Bool, true, false, List, [], ◌∷◌}
use Rattle.std.specs.Prelude.{◌≡◌, ◌≤◌, map, Option, Some, None, if◌then◌else◌, nat_lt, nat_le}
use Rattle.std.specs.Prelude.{length, codes}
use Rattle.std.specs.List.{list_all}
use Rattle.std.specs.Option.{option_and_then, option_map}
use Rattle.std.specs.Str.{bytes_eq, is_utf8}
use Rattle.httparse.specs.Grammar.{RequestHead, ReadsRequest, is_token, is_uri_byte, is_value_byte}
use Rattle.httparse.specs.Grammar.{trim_ows}
use Rattle.httparse.specs.Spans.{name_and_value}
use Rattle.ox_http.specs.Lines.{lines_of}

-- a field: its name, and its value without white space around it
abbrev pub NameAndValue : Type 0
NameAndValue = List ℕ × List ℕ

-- the parts of a start line
pub record Start : Type 0 where
  pub method : List ℕ
  pub target : List ℕ
  -- 0 for HTTP/1.0, 1 for HTTP/1.1
  pub minor : ℕ

-- the parts of a head
pub record Head : Type 0 where
  pub start : Start
  pub fields : List NameAndValue

-- the bytes before the first byte c, and those behind it
abbrev pub cut_at : ℕ → List ℕ → Option (List ℕ × List ℕ)
cut_at c [] = None
cut_at c (b ∷ bytes) =
    if b == c then Some ([], bytes)
    else option_map (λ (parts : List ℕ × List ℕ). (b ∷ parts.0, parts.1)) (cut_at c bytes)

-- the last digit of a version
abbrev pub minor_of : List ℕ → Option ℕ
minor_of version =
    if bytes_eq version (codes "HTTP/1.1") then Some 1
    else if bytes_eq version (codes "HTTP/1.0") then Some 0 else None

-- a target: one or more visible bytes or bytes past ASCII, in UTF-8
abbrev pub is_target : List ℕ → Bool
is_target target = nat_lt 0 (length target) && list_all is_uri_byte target && is_utf8 target

abbrev pub start_from : List ℕ → List ℕ → Option ℕ → Option Start
start_from method target None = None
start_from method target (Some minor) =
    if is_token method && is_target target
    then Some (record { method = method; target = target; minor = minor }) else None

-- the parts of a start line: a method, a target and a version, with one space between each two
abbrev pub start_of : List ℕ → Option Start
start_of line =
    option_and_then
    (λ front. option_and_then (λ back. start_from front.0 back.0 (minor_of back.1))
    (cut_at 32 front.1))
    (cut_at 32 line)

abbrev pub field_from : List ℕ → List ℕ → Option NameAndValue
field_from name raw =
    if is_token name && list_all is_value_byte raw then Some (name, trim_ows raw) else None

-- the field of a line: a name, a colon, and the value with white space around it
abbrev pub field_of : List ℕ → Option NameAndValue
field_of line = option_and_then (λ parts. field_from parts.0 parts.1) (cut_at 58 line)

abbrev pub fields_with : Option NameAndValue → Option (List NameAndValue)
    → Option (List NameAndValue)
fields_with (Some field) (Some fields) = Some (field ∷ fields)
fields_with field fields = None

-- nothing stands behind the last line feed, and no line before that
abbrev pub is_end : List (List ℕ) → Bool
is_end ([] ∷ []) = true
is_end lines = false

-- the fields of lines, one in each up to an empty line, behind which nothing stands
abbrev pub fields_of : List (List ℕ) → Option (List NameAndValue)
fields_of [] = None
fields_of (line ∷ lines) =
    if length line == 0 then (if is_end lines then Some [] else None)
    else fields_with (field_of line) (fields_of lines)

-- the most fields that a head may have
abbrev pub most_fields : ℕ
most_fields = 64

abbrev pub head_from : Option Start → Option (List NameAndValue) → Option Head
head_from (Some start) (Some fields) =
    if nat_le (length fields) most_fields
    then Some (record { start = start; fields = fields }) else None
head_from start fields = None

-- the head of lines: empty ones, a start line, and fields
abbrev pub head_in : List (List ℕ) → Option Head
head_in [] = None
head_in (line ∷ lines) =
    if length line == 0 then head_in lines else head_from (start_of line) (fields_of lines)

-- the head that bytes are, all of them, if they are one
unfoldable pub head_of : List ℕ → Option Head
head_of bytes = head_in (lines_of bytes)

-- what a head of the parser's grammar is by these definitions
abbrev pub seen : RequestHead → Head
seen read = record {
  start = record { method = read.method; target = read.target; minor = read.minor };
  fields = map name_and_value read.fields;
}

-- bytes, all of them, are a head of the parser's grammar, of no more fields than a head may have
pub record IsHead (bytes : List ℕ) (head : Head) : Type 0 where
  pub read : RequestHead
  pub reads : ReadsRequest bytes read []
  pub few : length read.fields ≤ most_fields
  pub seen_is : seen read ≡ head
