-- What may be wrong with a head, as facts.
use Rattle.std.specs.Prelude.{◌≡◌, ◌≢◌, ◌⊎◌, ◌<◌, ℕ, List, [], IsTrue, All, codes}
use Rattle.ox_http.specs.First.{values_of, is_length, body_length, body_limit}
use Rattle.ox_http.specs.Head.{Head}

-- the lengths that a head tells
abbrev pub lengths_in : Head → List (List ℕ)
lengths_in head = values_of (codes "content-length") head.fields

-- the lengths that are told, if any, are one text of one to nineteen digits
abbrev pub HasOneLength : Head → Type 0
HasOneLength head =
    (text : List ℕ) × IsTrue (is_length text) × All (λ told. told ≡ text) (lengths_in head)

-- a transfer encoding is told, or a POST tells no length
abbrev pub LacksLength : Head → Type 0
LacksLength head =
    (values_of (codes "transfer-encoding") head.fields ≢ [])
    ⊎ ((head.start.method ≡ codes "POST") × (lengths_in head ≡ []))

-- its body would be longer than a body may be
abbrev pub IsTooLong : Head → Type 0
IsTooLong head = body_limit < body_length head
