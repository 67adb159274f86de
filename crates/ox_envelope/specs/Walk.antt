-- Pushes and fields as plain data.
use Rattle.std.specs.Prelude.{ℕ, List, map}
use Rattle.std.specs.Prelude.{[], ◌∷◌, Bool, bytes_eq, Option}
use Rattle.std.specs.List.{list_any}
use Rattle.std.specs.Borrow.{Bor}
use Rattle.ox_envelope.specs.Payload.{Field, fields, body_pushes, values_of}
use Rattle.ox_envelope.specs.declared.payload.Field as declared

-- the bytes of pushes
abbrev pub texts : List (Bor (List ℕ)) → List (List ℕ)
texts pushes = map (λ push. push.now) pushes

abbrev pub seen_field : declared.Field → Field
seen_field field = record { tag = field.tag.now; value = field.value.now }

-- these bytes are among the pushes
abbrev pub is_among : List (Bor (List ℕ)) → List ℕ → Bool
is_among pushes bytes = list_any (bytes_eq bytes) (texts pushes)

-- what is read of the pushes: the fields, and the pushes of the body
abbrev pub fields_in : List (Bor (List ℕ)) → List Field
fields_in pushes = fields (texts pushes)

abbrev pub body_in : List (Bor (List ℕ)) → Option (List (List ℕ))
body_in pushes = body_pushes (texts pushes)

-- fields as plain data, and a tag's values among them
abbrev pub seen_fields : List declared.Field → List Field
seen_fields all = map seen_field all

abbrev pub values_at : ℕ → List declared.Field → List (List ℕ)
values_at tag all = values_of (tag ∷ []) (seen_fields all)
