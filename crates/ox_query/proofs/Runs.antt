-- Runs, one by one.
use Rattle.std.proofs.Common.{◌≡◌, List, [], ◌∷◌, map, refl, ap}
use Rattle.serde_json.specs.Data.{item}
use Rattle.serde_json.specs.View.{items_of}
use Rattle.ox_range.specs.declared.runs.Run.{Run}
use Rattle.ox_replies.specs.Outputs.{run_items, run_tree}

pub run_items-map : (runs : List Run) → run_items runs ≡ items_of (map run_tree runs)
run_items-map [] = refl
run_items-map (run ∷ runs) = ap (item (run_tree run)) (run_items-map runs)
