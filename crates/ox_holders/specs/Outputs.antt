-- Which outputs have a script.
use Rattle.std.specs.Prelude.{ℕ, Bool, false, bytes_eq, List, map}
use Rattle.std.specs.List.{filter}
use Rattle.std.specs.Option.{option_map_or}
use Rattle.std.specs.FinMap.{entries, get}
use Rattle.ox_block.specs.declared.block.OutPoint.{OutPoint}
use Rattle.ox_rules.specs.Outputs.{Outputs}
use Rattle.ox_rules.specs.declared.rows.OutRow.{OutRow}

-- a row has this script
abbrev pub is_locked_by : List ℕ → OutRow → Bool
is_locked_by script row = bytes_eq row.script script

-- the outpoints of the outputs with a script, rising
unfoldable pub outputs_with : List ℕ → Outputs → List OutPoint
outputs_with script outs = map (λ e. e.0) (filter (λ e. is_locked_by script e.1) (entries outs))

-- the outpoint is that of an output with the script
unfoldable pub has_output : Outputs → List ℕ → OutPoint → Bool
has_output outs script at = option_map_or (is_locked_by script) (get outs at) false
