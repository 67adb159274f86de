-- Inscriptions in lists.
use Rattle.std.specs.Prelude.{ℕ, List, map, slice_get}
use Rattle.std.specs.List.{filter_map}
use Rattle.serde_json.specs.Data.{Data}
use Rattle.ox_inscribe.specs.declared.row.InsRow.{InsRow}
use Rattle.ox_replies.specs.Inscriptions.{inscription_id}

-- the ids of the inscriptions with these numbers, one by one
abbrev pub inscription_ids_of : List InsRow → List ℕ → List Data
inscription_ids_of rows numbers = map inscription_id (filter_map (slice_get rows) numbers)
