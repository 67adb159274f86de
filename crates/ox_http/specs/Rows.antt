-- Streams whose talk is computed.
use Rattle.std.specs.Prelude.{ℕ, Bool, List, [], ◌++◌, codes}
use Rattle.ox_http.specs.declared.Method.TheVariants.{Get}
use Rattle.ox_http.specs.declared.Request.{Request}

-- a request for the status
abbrev pub status_bytes : List ℕ
status_bytes = codes "GET /status HTTP/1.1\r\n\r\n"

abbrev pub status_twice : List ℕ
status_twice = status_bytes ++ status_bytes

-- the first of two requests closes the link
abbrev pub closing_then_status : List ℕ
closing_then_status = codes "GET /status HTTP/1.1\r\nConnection: close\r\n\r\n" ++ status_bytes

abbrev pub status_asked : Bool → Request
status_asked close = record { method = Get; path = codes "/status"; body = []; close = close }
