-- The trees of inscriptions, and the lists of inscriptions in other trees.
use Rattle.std.specs.Prelude.{ℕ, ◌/◌, ◌%◌, ◌==◌, List, [], ◌∷◌, length, map, codes, slice_get}
use Rattle.std.specs.Prelude.{if◌then◌else◌}
use Rattle.std.specs.List.{filter_map, flat_map}
use Rattle.std.specs.Option.{option_and_then}
use Rattle.serde_json.specs.Data.{Data, boolean, string, array, object, no_members, member}
use Rattle.serde_json.specs.View.{items_of}
use Rattle.ox_envelope.specs.Id.{id_text}
use Rattle.ox_envelope.specs.Mark as mark
use Rattle.ox_envelope.specs.declared.id.InsId.{InsId}
use Rattle.ox_inscribe.specs.Inscriptions.{children, on}
use Rattle.ox_inscribe.specs.Signed.{is_cursed, is_vindicated, number_of}
use Rattle.ox_inscribe.specs.declared.row.InsRow.{InsRow}
use Rattle.ox_model.specs.Index.{Index}
use Rattle.ox_model.specs.Where.{where_is}
use Rattle.ox_replies.specs.Values.{count, hex, integer, or_null, place_tree, text_or_null}

abbrev pub id_tree : InsId → Data
id_tree id = string (id_text id)

-- an inscription's id
abbrev pub inscription_id : InsRow → Data
inscription_id row = id_tree row.id

-- the ids of the inscriptions with these sequences
abbrev pub ids_tree : List InsRow → List ℕ → Data
ids_tree rows numbers = array (items_of (map inscription_id (filter_map (slice_get rows) numbers)))

-- the ids of the inscriptions on these satoshis: satoshi by satoshi, and on each by
-- sequence
abbrev pub ids_on_all : List InsRow → List ℕ → Data
ids_on_all rows sats = ids_tree rows (flat_map (on rows) sats)

-- a mark's text in front of others, if the bit of this worth is set
abbrev pub mark_if : ℕ → ℕ → List ℕ → List Data → List Data
mark_if marks worth text texts =
    if marks / worth % 2 == 1 then string text ∷ texts else texts

-- the texts of marks, from the lowest bit on
abbrev pub mark_texts : ℕ → List Data
mark_texts marks =
    mark_if marks mark.even (codes "even") (
    mark_if marks mark.repeated (codes "repeated") (
    mark_if marks mark.incomplete (codes "incomplete") (
    mark_if marks mark.input (codes "input") (
    mark_if marks mark.offset (codes "offset") (
    mark_if marks mark.pointer (codes "pointer") (
    mark_if marks mark.pushnum (codes "pushnum") (
    mark_if marks mark.reinscription (codes "reinscription") [])))))))

abbrev pub marks_tree : ℕ → Data
marks_tree marks = array (items_of (mark_texts marks))

-- an inscription with its sequence, by a jubilee
abbrev pub inscription_tree : ℕ → Index → ℕ → InsRow → Data
inscription_tree jubilee index n row = object (
    member (codes "children") (ids_tree index.inscriptions (children index.inscriptions n)) (
    member (codes "content_length") (or_null (λ body. count (length body)) row.body) (
    member (codes "content_type") (or_null text_or_null row.content_type) (
    member (codes "cursed") (boolean (is_cursed jubilee row)) (
    member (codes "delegate") (or_null id_tree row.delegate) (
    member (codes "encoding") (or_null text_or_null row.encoding) (
    member (codes "height") (count row.height) (
    member (codes "id") (id_tree row.id) (
    member (codes "marks") (marks_tree row.marks) (
    member (codes "metadata") (or_null hex row.metadata) (
    member (codes "metaprotocol") (or_null text_or_null row.metaprotocol) (
    member (codes "number") (integer (number_of jubilee index.inscriptions n row)) (
    member (codes "parents") (array (items_of (map id_tree row.parents))) (
    member (codes "place") (place_tree (option_and_then (where_is index) row.sat)) (
    member (codes "sat") (or_null count row.sat) (
    member (codes "sequence") (count n) (
    member (codes "vindicated") (boolean (is_vindicated jubilee row))
    no_members)))))))))))))))))
