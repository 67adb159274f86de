-- What the pushes of an envelope say: the Ordinal Theory Handbook, "Inscriptions", "Fields".
use Rattle.std.specs.Prelude.{ℕ, ◌+◌, ◌%◌, Bool, true, false, not, ◌&&◌, ◌||◌, List, [], ◌∷◌}
use Rattle.std.specs.Prelude.{length, is_some, Option, Some, None, option_map, ◌==◌, nat_lt}
use Rattle.std.specs.Prelude.{bytes_eq, if◌then◌else◌}
use Rattle.std.specs.List.{list_any, filter_map, concat}
use Rattle.ox_envelope.specs.Envelope.{EnvelopePushes}
use Rattle.ox_envelope.specs.Id.{id_of_value}
use Rattle.ox_envelope.specs.Mark as mark
use Rattle.ox_envelope.specs.Mark.{bit}
use Rattle.ox_envelope.specs.Tag as tag
use Rattle.ox_envelope.specs.declared.inscribed.Inscribed.{Inscribed}
use Rattle.ox_envelope.specs.declared.id.InsId.{InsId}

-- a tag and its value
pub record Field : Type 0 where
  pub tag : List ℕ
  pub value : List ℕ

abbrev pub is_empty : List ℕ → Bool
is_empty [] = true
is_empty _ = false

-- tags and values take turns, up to an empty push in a tag's place
abbrev pub fields : List (List ℕ) → List Field
fields (tag ∷ value ∷ pushes) =
    if is_empty tag then [] else record { tag = tag; value = value } ∷ fields pushes
fields _ = []

-- the pushes after that one, if it is there
abbrev pub body_pushes : List (List ℕ) → Option (List (List ℕ))
body_pushes [] = None
body_pushes (tag ∷ []) = if is_empty tag then Some [] else None
body_pushes (tag ∷ value ∷ pushes) =
    if is_empty tag then Some (value ∷ pushes) else body_pushes pushes

-- a last tag has no value
abbrev pub is_incomplete : List (List ℕ) → Bool
is_incomplete [] = false
is_incomplete (tag ∷ []) = not (is_empty tag)
is_incomplete (tag ∷ value ∷ pushes) = if is_empty tag then false else is_incomplete pushes

-- the values of a tag, in order
abbrev pub values_of : List ℕ → List Field → List (List ℕ)
values_of tag [] = []
values_of tag (field ∷ fields) =
    if bytes_eq field.tag tag then field.value ∷ values_of tag fields else values_of tag fields

-- the first of some values
abbrev pub first_of : List (List ℕ) → Option (List ℕ)
first_of [] = None
first_of (value ∷ _) = Some value

-- some values joined, if there is one
abbrev pub joined_of : List (List ℕ) → Option (List ℕ)
joined_of [] = None
joined_of (value ∷ values) = Some (concat (value ∷ values))

-- the first of some values as an id, if it is one
abbrev pub first_id : List (List ℕ) → Option InsId
first_id [] = None
first_id (value ∷ _) = id_of_value value

-- content type, pointer, parent, metadata, metaprotocol, content encoding and delegate
abbrev pub known_tags : List (List ℕ)
known_tags =
    (tag.content_type ∷ []) ∷ (tag.pointer ∷ []) ∷ (tag.parent ∷ []) ∷ (tag.metadata ∷ [])
    ∷ (tag.metaprotocol ∷ []) ∷ (tag.content_encoding ∷ []) ∷ (tag.delegate ∷ []) ∷ []

-- a tag is even by its first byte
abbrev pub is_even : List ℕ → Bool
is_even [] = false
is_even (byte ∷ _) = byte % 2 == 0

abbrev pub is_unknown_even : List ℕ → Bool
is_unknown_even name = is_even name && not (list_any (bytes_eq name) known_tags)

-- parents and metadata may have several values
abbrev pub is_single : List ℕ → Bool
is_single name =
    not (bytes_eq name (tag.parent ∷ [])) && not (bytes_eq name (tag.metadata ∷ []))

-- the tags of which a second value is marked
abbrev pub single_tags : List Field → List (List ℕ)
single_tags [] = []
single_tags (field ∷ fields) =
    if is_single field.tag then field.tag ∷ single_tags fields else single_tags fields

-- one of them stands there again
abbrev pub has_repeat : List (List ℕ) → Bool
has_repeat [] = false
has_repeat (tag ∷ tags) = list_any (bytes_eq tag) tags || has_repeat tags

-- a second pointer counts as an unknown even tag
abbrev pub has_unknown_even : List Field → Bool
has_unknown_even fields =
    list_any (λ field. is_unknown_even field.tag) fields
    || nat_lt 1 (length (values_of (tag.pointer ∷ []) fields))

-- the marks, by the fields, and by whether the last tag has no value and whether a push is by
-- OP_1NEGATE or OP_1 to OP_16
abbrev pub marks_of : List Field → Bool → Bool → ℕ
marks_of all incomplete number =
    bit (has_unknown_even all) mark.even
    + bit (has_repeat (single_tags all)) mark.repeated
    + bit incomplete mark.incomplete
    + bit (is_some (first_of (values_of (tag.pointer ∷ []) all))) mark.pointer
    + bit number mark.pushnum

-- what an envelope says
abbrev pub inscribed_of : EnvelopePushes → Inscribed
inscribed_of envelope =
    let all = fields envelope.pushes in
    record {
      content_type = first_of (values_of (tag.content_type ∷ []) all);
      pointer = first_of (values_of (tag.pointer ∷ []) all);
      metadata = joined_of (values_of (tag.metadata ∷ []) all);
      metaprotocol = first_of (values_of (tag.metaprotocol ∷ []) all);
      encoding = first_of (values_of (tag.content_encoding ∷ []) all);
      body = option_map concat (body_pushes envelope.pushes);
      parents = filter_map id_of_value (values_of (tag.parent ∷ []) all);
      delegate = first_id (values_of (tag.delegate ∷ []) all);
      marks = marks_of all (is_incomplete envelope.pushes) envelope.has_number;
    }
