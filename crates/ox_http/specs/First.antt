-- The first request of a stream of bytes, or what is wrong with it.
use Rattle.std.specs.Prelude.{ℕ, suc, ◌+◌, ◌==◌, ◌&&◌, ◌||◌, Bool, true, not, List, [], ◌∷◌}
use Rattle.std.specs.Prelude.{Option, Some, None, if◌then◌else◌, nat_lt, nat_le, length, take, drop}
use Rattle.std.specs.Prelude.{codes, nat_eq, filter, map}
use Rattle.std.specs.List.{list_all, list_any, starts_with}
use Rattle.std.specs.Char.{is_ascii_digit}
use Rattle.std.specs.Option.{option_map}
use Rattle.std.specs.Str.{bytes_eq, str_eq_ignore_ascii_case}
use Rattle.std.specs.Str.Parse.{digits_value}
use Rattle.ox_bytes.specs.Limits.{block_limit}
use Rattle.ox_http.specs.declared.Method.{Method}
use Rattle.ox_http.specs.declared.Method.TheVariants.{Get, Post, Other}
use Rattle.ox_http.specs.declared.Request.{Request}
use Rattle.ox_http.specs.Head.{Head, NameAndValue, head_of}

-- What the bytes of a stream begin with: a whole request, and how many of them it has; or too few
-- bytes to say; or a fault, by the status of its reply.
pub data First : Type 0 where
  whole : Request → ℕ → First
  more : First
  fault : ℕ → First

-- what a head without a fault asks: all but the body, of which it has the length
pub record Asked : Type 0 where
  pub method : Method
  pub path : List ℕ
  pub size : ℕ
  pub close : Bool

-- What the front of a stream is, its body left aside: a head without a fault, by its number of
-- bytes; or too few bytes to say; or a fault.
pub data Front : Type 0 where
  opens : ℕ → Asked → Front
  waits : Front
  fails : ℕ → Front

-- the bytes among which the end of a head has to stand
abbrev pub head_limit : ℕ
head_limit = 8192

-- the most bytes that a body may have: those of a block
abbrev pub body_limit : ℕ
body_limit = block_limit

-- the end of a line and an empty line
abbrev pub blank_line : List ℕ
blank_line = codes "\r\n\r\n"

-- how many bytes there are up to and with the first blank line
unfoldable pub head_length : List ℕ → Option ℕ
head_length [] = None
head_length (b ∷ bytes) =
    if starts_with nat_eq (b ∷ bytes) blank_line then Some 4 else option_map suc (head_length bytes)

-- the values of the fields of a name, which may be written in any case of letters
abbrev pub values_of : List ℕ → List NameAndValue → List (List ℕ)
values_of name fields =
    map (λ (field : NameAndValue). field.1)
    (filter (λ (field : NameAndValue). str_eq_ignore_ascii_case field.0 name) fields)

-- one to nineteen digits
abbrev pub is_length : List ℕ → Bool
is_length text =
    nat_lt 0 (length text) && nat_le (length text) 19 && list_all is_ascii_digit text

-- each is a length, and all are the same text
abbrev pub are_one_length : List (List ℕ) → Bool
are_one_length [] = true
are_one_length (text ∷ texts) = is_length text && list_all (bytes_eq text) texts

-- the length of a body, of which a head says nothing or one text
abbrev pub length_told : List (List ℕ) → ℕ
length_told [] = 0
length_told (text ∷ texts) = digits_value 10 text

abbrev pub body_length : Head → ℕ
body_length head = length_told (values_of (codes "content-length") head.fields)

abbrev pub method_of : List ℕ → Method
method_of name =
    if bytes_eq name (codes "GET") then Get
    else if bytes_eq name (codes "POST") then Post else Other

abbrev pub is_post : Head → Bool
is_post head = bytes_eq head.start.method (codes "POST")

abbrev pub lacks_length : Head → List (List ℕ) → Bool
lacks_length head lengths =
    nat_lt 0 (length (values_of (codes "transfer-encoding") head.fields))
    || (is_post head && length lengths == 0)

abbrev pub fault_by : Head → List (List ℕ) → Option ℕ
fault_by head lengths =
    if not (are_one_length lengths) then Some 400
    else if lacks_length head lengths then Some 411
    else if nat_lt body_limit (length_told lengths) then Some 413 else None

-- The first fault of a head: 400 for lengths that are none or differ, 411 for a body without a
-- length, 413 for a body that is too long.
unfoldable pub fault_of : Head → Option ℕ
fault_of head = fault_by head (values_of (codes "content-length") head.fields)

-- the link ends with the reply: HTTP/1.0 does, and a field that says so
unfoldable pub closes : Head → Bool
closes head =
    head.start.minor == 0
    || list_any (λ value. str_eq_ignore_ascii_case value (codes "close"))
    (values_of (codes "connection") head.fields)

abbrev pub asked_by : Head → Asked
asked_by head = record {
  method = method_of head.start.method;
  path = head.start.target;
  size = body_length head;
  close = closes head;
}

-- what a head of n bytes is, which may be at fault
abbrev pub unless_at_fault : ℕ → Head → Option ℕ → Front
unless_at_fault n head None = opens n (asked_by head)
unless_at_fault n head (Some status) = fails status

-- 400 where n bytes that should be a head aren't one
abbrev pub at_head : ℕ → Option Head → Front
at_head n None = fails 400
at_head n (Some head) = unless_at_fault n head (fault_of head)

-- 431 where the end of the head isn't among the bytes in which it has to stand
abbrev pub at_end : List ℕ → Option ℕ → Front
at_end bytes None = if nat_lt (length bytes) head_limit then waits else fails 431
at_end bytes (Some n) = at_head n (head_of (take n bytes))

-- what the front of a stream is
unfoldable pub front_of : List ℕ → Front
front_of bytes = at_end bytes (head_length (take head_limit bytes))

-- the request that is asked, with its body
abbrev pub request_with : Asked → List ℕ → Request
request_with asked body =
    record { method = asked.method; path = asked.path; body = body; close = asked.close }

-- a request is whole once its body has come
abbrev pub with_body : List ℕ → Front → First
with_body bytes (opens n asked) =
    if nat_le (n + asked.size) (length bytes)
    then whole (request_with asked (take asked.size (drop n bytes))) (n + asked.size) else more
with_body bytes waits = more
with_body bytes (fails status) = fault status

-- what a stream begins with
unfoldable pub first_of : List ℕ → First
first_of bytes = with_body bytes (front_of bytes)
