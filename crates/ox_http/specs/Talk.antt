-- What the bytes of a link ask.
use Rattle.std.specs.Prelude.{ℕ, zero, suc, ◌-◌, Bool, true, false, List, [], ◌∷◌, drop}
use Rattle.std.specs.Prelude.{if◌then◌else◌}
use Rattle.ox_http.specs.declared.Request.{Request}
use Rattle.ox_http.specs.First.{First, whole, more, fault, first_of}

-- a request, or a fault, by the status of its reply
pub data Message : Type 0 where
  asks : Request → Message
  faults : ℕ → Message

-- the link ends with the reply to the message
abbrev pub is_last : Message → Bool
is_last (asks request) = request.close
is_last (faults status) = true

-- the messages of a stream of which the first is known, and the later ones by the number of bytes
-- that are passed over in front of them
abbrev pub talk_from : First → (ℕ → List Message) → List Message
talk_from (whole request used) later =
    asks request ∷ (if request.close then [] else later (used - 1))
talk_from more later = []
talk_from (fault status) later = faults status ∷ []

-- the messages of a stream behind a number of bytes, which are passed over
unfoldable pub talk_behind : ℕ → List ℕ → List Message
talk_behind passed [] = []
talk_behind (suc passed) (b ∷ bytes) = talk_behind passed bytes
talk_behind zero (b ∷ bytes) =
    talk_from (first_of (b ∷ bytes)) (λ passed. talk_behind passed bytes)

-- The messages of a stream: its requests, up to one that closes, a fault, or too few bytes to say.
unfoldable pub talk : List ℕ → List Message
talk bytes = talk_behind 0 bytes

-- what the talk leaves of the bytes of a stream of which the first is known
abbrev pub left_from : First → List ℕ → List ℕ → (ℕ → List ℕ) → List ℕ
left_from (whole request used) stream bytes later =
    if request.close then drop (used - 1) bytes else later (used - 1)
left_from more stream bytes later = stream
left_from (fault status) stream bytes later = stream

unfoldable pub left_behind : ℕ → List ℕ → List ℕ
left_behind passed [] = []
left_behind (suc passed) (b ∷ bytes) = left_behind passed bytes
left_behind zero (b ∷ bytes) =
    left_from (first_of (b ∷ bytes)) (b ∷ bytes) bytes (λ passed. left_behind passed bytes)

-- What the talk leaves: the bytes behind its last whole request.
unfoldable pub left : List ℕ → List ℕ
left bytes = left_behind 0 bytes

-- the talk has ended: no later byte is of it
abbrev pub has_ended : List Message → Bool
has_ended [] = false
has_ended (message ∷ []) = is_last message
has_ended (message ∷ messages) = has_ended messages
