-- How the pushes of an envelope are made of its fields and its body (Ordinal Theory Handbook,
-- "Inscriptions", "Fields").
use Rattle.std.specs.Prelude.{◌≡◌, ℕ, true, false, List, [], ◌∷◌, ◌++◌, Option, Some, None, All}
use Rattle.ox_envelope.specs.Payload.{Field, body_pushes, fields, is_empty, is_incomplete}

-- the pushes that spell fields: tag and value in turn
unfoldable pub pushes_of : List Field → List (List ℕ)
pushes_of [] = []
pushes_of (field ∷ fields) = field.tag ∷ field.value ∷ pushes_of fields

-- what stands behind the fields: with a body an empty push and the body's pushes, else these
abbrev pub pushes_behind : Option (List (List ℕ)) → List (List ℕ) → List (List ℕ)
pushes_behind None lone = lone
pushes_behind (Some body) lone = [] ∷ body

-- The pushes are those of the fields, and then nothing, a lone tag, or an empty push and the body.
pub record AreSpelled (pushes : List (List ℕ)) : Type 0 where
  pub lone : List (List ℕ)
  pub spelled : pushes ≡ pushes_of (fields pushes) ++ pushes_behind (body_pushes pushes) lone
  -- no field's tag is the empty push
  pub tags : All (λ (field : Field). is_empty field.tag ≡ false) (fields pushes)
  -- a lone tag, which isn't empty, is there exactly where the envelope is incomplete
  pub complete : is_incomplete pushes ≡ false → lone ≡ []
  pub incomplete : is_incomplete pushes ≡ true
      → (tag : List ℕ) × (lone ≡ tag ∷ []) × (is_empty tag ≡ false) × (body_pushes pushes ≡ None)
