-- Lists of places.
use Rattle.std.specs.Prelude.{◌≡◌, ◌<◌, ℕ, ◌==◌, ◌&&◌, Bool, List, [], length, slice_get}
use Rattle.std.specs.List.{list_any}
use Rattle.std.specs.Option.{option_map_or}
use Rattle.std.specs.Global.{Vec}
use Rattle.ox_shards.specs.declared.lines.Lines.{Lines}
use Rattle.ox_shards.specs.Lines.{line_of}
use Rattle.ox_outputs.specs.declared.entry.Entry.{Entry}

-- the list with this index, or an empty one
abbrev pub items_at : List (Vec Entry) → ℕ → List Entry
items_at lists index = option_map_or (λ list. list.items) (slice_get lists index) []

-- the list to which a tag leads
abbrev pub led_to : List (Vec Entry) → Lines → ℕ → List Entry
led_to lists lines tag = items_at lists (line_of lines tag)

-- There is a list for each line, or none for the one line.
pub record AreMade (lists : List (Vec Entry)) (lines : Lines) : Type 0 where
  pub each : 0 < length lists → length lists ≡ lines.count
  pub none : length lists ≡ 0 → lines.count ≡ 1

-- whether a place stands in a list with this tag
abbrev pub is_in : List Entry → ℕ → ℕ → Bool
is_in list tag place = list_any (λ e. (e.tag == tag) && (e.place == place)) list
