-- A server to try logs on. Its state is a number, which tells how many commands were accepted.
--
-- In its streams 0 posts a command that is accepted and 1 one that is refused, 8 is a fault, 9 asks
-- for a page and closes, and each other byte asks for a page.
use Rattle.std.proofs.Common.{ℕ, ◌+◌, ◌==◌, Bool, true, false, List, [], ◌∷◌, length, if◌then◌else◌, Option, Some, None}
use Rattle.ox_outside.specs.Event.{Event, Heard, Showed}
use Rattle.ox_http.specs.declared.Method.{Method}
use Rattle.ox_http.specs.declared.Method.TheVariants.{Get, Post}
use Rattle.ox_http.specs.declared.Request.{Request}
use Rattle.ox_http.specs.Talk.{Message, asks, faults}
use Rattle.ox_links.specs.Link.{Written, answers_to, reply_bytes}
use Rattle.ox_links.specs.Serving.{Server, Serving, served_by}

abbrev request : Method → ℕ → Bool → Request
request method b close = record { method = method; path = b ∷ []; body = []; close = close }

abbrev said : ℕ → List Message → List Message
said b later =
    if b == 8 then faults 431 ∷ []
    else if b == 9 then asks (request Get b true) ∷ []
    else if b == 0 then asks (request Post b false) ∷ later
    else if b == 1 then asks (request Post b false) ∷ later
    else asks (request Get b false) ∷ later

abbrev talk : List ℕ → List Message
talk [] = []
talk (b ∷ bytes) = said b (talk bytes)

abbrev pub reply : List ℕ → Bool → Written
reply bytes close = record { bytes = bytes; size = 1; close = close }

abbrev first_byte : List ℕ → ℕ
first_byte [] = 0
first_byte (b ∷ bytes) = b

abbrev command_by : Bool → Method → List ℕ → Option ℕ
command_by true Post path = Some (first_byte path)
command_by operator method path = None

abbrev turn : ℕ → ℕ → Option ℕ
turn n c = if c == 0 then Some (n + 1) else None

-- 200 and the number before it, or 109 where it is refused
abbrev command_reply : ℕ → Option ℕ → Written
command_reply n None = reply (109 ∷ []) false
command_reply n (Some m) = reply (200 ∷ n ∷ []) false

-- a page tells the length of its path and the number; a command of the public door gets 103
abbrev reply_by : ℕ → Bool → Method → Request → Written
reply_by n operator Get asked = reply (length asked.path ∷ n ∷ []) asked.close
reply_by n true Post asked = command_reply n (turn n (first_byte asked.path))
reply_by n operator method asked = reply (103 ∷ []) false

abbrev pub toy : Server ℕ ℕ
toy = record {
  talk = talk;
  fault_reply = λ status. reply (43 ∷ []) true;
  unavailable = reply (53 ∷ []) true;
  command = λ operator asked. command_by operator asked.method asked.path;
  turn = turn;
  reply = λ n operator asked. reply_by n operator asked.method asked;
}

abbrev pub ran : List Event → Serving ℕ ℕ
ran log = served_by toy 0 log

-- the bytes that a log gives a link
abbrev pub bytes_to : ℕ → List Event → List ℕ
bytes_to channel log = reply_bytes (answers_to channel (ran log).answers)

-- pages are asked for one after another, each shown with this number
abbrev pub pages : ℕ → ℕ → List ℕ → List Event
pages channel n [] = []
pages channel n (b ∷ bytes) = Heard channel (b ∷ []) ∷ Showed channel (1 ∷ n ∷ []) ∷ pages channel n bytes
