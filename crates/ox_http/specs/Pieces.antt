-- A stream in pieces: its requests' bytes, and what is left.
use Rattle.std.specs.Prelude.{◌≡◌, ℕ, false, List, [], ◌∷◌, ◌++◌, length, ⊤}
use Rattle.std.specs.List.{concat}
use Rattle.ox_http.specs.declared.Request.{Request}
use Rattle.ox_http.specs.First.{whole, more, fault, first_of}
use Rattle.ox_http.specs.Talk.{Message, asks, faults, talk, left}

-- the requests among messages, in order
abbrev pub requests_of : List Message → List Request
requests_of [] = []
requests_of (asks request ∷ messages) = request ∷ requests_of messages
requests_of (faults status ∷ messages) = requests_of messages

-- each piece is one whole request, all of it, and they are these in order
abbrev pub AreRequests : List (List ℕ) → List Request → Type 0
AreRequests [] [] = ⊤
AreRequests (piece ∷ pieces) (request ∷ requests) =
    (first_of piece ≡ whole request (length piece)) × AreRequests pieces requests
AreRequests pieces requests = ⊥

-- What messages leave begins with the fault that is the last of them; and else, unless a request
-- closes, with too few bytes to say.
abbrev pub Leaves : List Message → List ℕ → Type 0
Leaves [] rest = first_of rest ≡ more
Leaves (faults status ∷ messages) rest = first_of rest ≡ fault status
Leaves (asks request ∷ messages) rest = request.close ≡ false → Leaves messages rest

-- a stream is the bytes of each request of its talk, in order, and then what is left
pub record IsCut (bytes : List ℕ) (pieces : List (List ℕ)) : Type 0 where
  pub requests : AreRequests pieces (requests_of (talk bytes))
  pub bytes_are : bytes ≡ concat pieces ++ left bytes
  pub rest : Leaves (talk bytes) (left bytes)
