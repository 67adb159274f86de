-- The tree of an unspent output.
use Rattle.std.specs.Prelude.{List, [], ◌∷◌, length, codes}
use Rattle.serde_json.specs.Data.{Data, array, object, Items, no_items, item}
use Rattle.serde_json.specs.Data.{no_members, member}
use Rattle.ox_block.specs.declared.block.OutPoint.{OutPoint}
use Rattle.ox_range.specs.declared.runs.Run.{Run}
use Rattle.ox_range.specs.Runs.{runs_of, end_of}
use Rattle.ox_rules.specs.declared.rows.OutRow.{OutRow}
use Rattle.ox_ledger.specs.Runes.{balances_at}
use Rattle.ox_model.specs.Index.{Index}
use Rattle.ox_replies.specs.Inscriptions.{ids_on_all}
use Rattle.ox_replies.specs.Runes.{balances_tree}
use Rattle.ox_replies.specs.Values.{count, hex}

-- a run of satoshis: the first, and the one behind the last
abbrev pub run_tree : Run → Data
run_tree run = array (item (count run.first) (item (count (end_of run)) no_items))

abbrev pub run_items : List Run → Items
run_items [] = no_items
run_items (run ∷ runs) = item (run_tree run) (run_items runs)

-- the unspent output at an outpoint: its inscriptions by the places of their satoshis, its runes by
-- their ids
abbrev pub output_tree : Index → OutPoint → OutRow → Data
output_tree index at row = object (
    member (codes "height") (count row.height) (
    member (codes "inscriptions") (ids_on_all index.inscriptions row.sats) (
    member (codes "ranges") (array (run_items (runs_of row.sats))) (
    member (codes "runes") (balances_tree index.runes (balances_at index.bal at)) (
    member (codes "script") (hex row.script) (
    member (codes "value") (count (length row.sats)) no_members))))))
